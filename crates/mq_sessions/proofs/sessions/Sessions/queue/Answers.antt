use Rattle.std.proofs.Common.{◌≡◌, ◌∙◌, List, map, sym, ap, subst}
use Rattle.mq_world.specs.World.{Session}
use Rattle.mq_sessions.specs.Ends.{AreIndexed, KeepIds}
use Rattle.mq_sessions.specs.Queue.{queue_copies, edit_session, queue_one}
use Rattle.mq_sessions.specs.Views.{session_in, sessions_of, queue_item_of, view_of, waiting_of}
use Rattle.mq_sessions.proofs.EndLemmas.{indexed-queued}
use Rattle.mq_sessions.proofs.EntryLemmas.{ids-edited}
use Rattle.mq_sessions.proofs.QueueLemmas.{queued-id}
use Rattle.mq_sessions.proofs.SessionLemmas.{edited-is, nobody-edited}
use Rattle.mq_world.proofs.TextKeys.{finds}
use Rattle.mq_sessions.proofs.sessions.Sessions.queue.Goals as goal

pub invariant_of-self-2 : goal.invariant_of-self-2
invariant_of-self-2 c =
    let sessions = sessions_of c.self.inside in
    let begin = queue_item_of c.args.queued_copy in
    let id = c.as_str.result.now in
    let es = c.self.inside.by_id.entries in
    let put = queue_copies c.args.limit (map waiting_of c.args.queued_copy.copies) in
    let is : map session_in (c.get_mut.follows.lender c.queue.new.self).entries
    ≡ queue_one c.args.limit begin sessions =
    ap (map session_in) (c.get_mut.follows.holds c.queue.new.self).0
    ∙ edited-is id put c.in-Some.session.now c.queue.new.self es (sym c.in-Some.ensures.value)
    (ap (λ (s : Session). record s { id = id }) c.queue.ensures.shown
    ∙ queued-id c.args.limit id (map waiting_of c.args.queued_copy.copies)
    (view_of c.in-Some.session.now)) c.in-Some.ensures.ordered
    ∙ ap (λ i. map (edit_session put i) (map session_in es)) c.as_str.ensures.value in (
      subst (AreIndexed c.self.inside.index) (sym is)
          (indexed-queued c.args.limit begin c.self.inside.index sessions c.self.invariant.0),
      subst KeepIds (sym (c.get_mut.follows.holds c.queue.new.self).0)
          (ids-edited (finds id) c.in-Some.session.now c.queue.new.self es
          (sym c.in-Some.ensures.value) c.queue.ensures.id c.self.invariant.1),
    )

pub returns : goal.returns
returns c =
    let id = c.as_str.result.now in
    let es = c.self.inside.by_id.entries in
    let put = queue_copies c.args.limit (map waiting_of c.args.queued_copy.copies) in
    ap (map session_in) (c.get_mut.follows.holds c.queue.new.self).0
    ∙ edited-is id put c.in-Some.session.now c.queue.new.self es (sym c.in-Some.ensures.value)
    (ap (λ (s : Session). record s { id = id }) c.queue.ensures.shown
    ∙ queued-id c.args.limit id (map waiting_of c.args.queued_copy.copies)
    (view_of c.in-Some.session.now)) c.in-Some.ensures.ordered
    ∙ ap (λ i. map (edit_session put i) (map session_in es)) c.as_str.ensures.value
    ∙ ap (λ (l : List Session). queue_one c.args.limit (queue_item_of c.args.queued_copy) l)
    c.self.view_is

pub returns-in_default : goal.returns-in_default
returns-in_default c =
    let es = c.self.inside.by_id.entries in
    let put = queue_copies c.args.limit (map waiting_of c.args.queued_copy.copies) in
    ap (λ m. map session_in m.entries) c.get_mut.follows.holds-at-none
    ∙ nobody-edited c.as_str.result.now put es (sym c.in_default.ensures.value)
    ∙ ap (λ i. map (edit_session put i) (map session_in es)) c.as_str.ensures.value
    ∙ ap (λ (l : List Session). queue_one c.args.limit (queue_item_of c.args.queued_copy) l)
    c.self.view_is
