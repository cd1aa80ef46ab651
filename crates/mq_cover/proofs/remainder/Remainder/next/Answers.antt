use Rattle.std.proofs.Common.{◌&&◌, ◌||◌, ◌∷◌, bytes_eq, refl, ap, sym, ◌∙◌}
use Rattle.mq_cover.specs.Remainders.{marks_view, passes, covers}
use Rattle.mq_topic.specs.Levels.{levels_left}
use Rattle.mq_topic.specs.Matching.{levels_match_by}
use Rattle.mq_cover.specs.declared.remainder.Remainder.{Remainder}
use Rattle.mq_cover.proofs.RemainderLemmas.{passes_client, passes_user, mark_goes_on, level_only}
use Rattle.mq_cover.proofs.RemainderLemmas.{covers_hash, level_is}
use Rattle.mq_cover.proofs.remainder.Remainder.next.Goals as goal

pub returns-then-is_last_hash-clause-goes_on : goal.returns-then-is_last_hash-clause-goes_on
returns-then-is_last_hash-clause-goes_on c =
    let r = c.args.self.now in
    let test = passes r.pattern (marks_view c.args.marks) in
    let w = c.split_first.result.0.now in
    let ws = levels_left c.split_first.result.1 in
    let rest = ap levels_left c.in-Some.is ∙ c.split_first.ensures in
    let hash = sym c.is_last_hash.ensures ∙ c.if-is_last_hash.true in
    λ l ls. ap (λ k. levels_match_by test k (l ∷ ls)) rest ∙ covers_hash test w ws (l ∷ ls) hash
    ∙ sym (ap (λ k. levels_match_by test k ls) rest ∙ covers_hash test w ws ls hash)

pub returns-then-is_mark-clause-goes_on : goal.returns-then-is_mark-clause-goes_on
returns-then-is_mark-clause-goes_on c =
    let marks = marks_view c.args.marks in
    let r = c.args.self.now in
    let w = c.split_first.result.0.now in
    rw c.at_mark.ensures
    (mark_goes_on marks r
    (record { pattern = r.pattern; rest = c.split_first.result.1 }) w
    c.args.marks.client
    (record {
      rest = ap levels_left c.in-Some.is ∙ c.split_first.ensures;
      no_hash = sym c.is_last_hash.ensures ∙ c.if-is_last_hash.false;
      pattern = refl;
    })
    (λ l. passes_client r.pattern marks w l (sym c.is_mark.ensures ∙ c.if-is_mark.true)))

pub returns-then-is_mark-2-clause-goes_on : goal.returns-then-is_mark-2-clause-goes_on
returns-then-is_mark-2-clause-goes_on c =
    let marks = marks_view c.args.marks in
    let r = c.args.self.now in
    let w = c.split_first.result.0.now in
    rw c.at_mark-then-is_mark-2.ensures
    (mark_goes_on marks r
    (record { pattern = r.pattern; rest = c.split_first.result.1 }) w
    c.args.marks.user
    (record {
      rest = ap levels_left c.in-Some.is ∙ c.split_first.ensures;
      no_hash = sym c.is_last_hash.ensures ∙ c.if-is_last_hash.false;
      pattern = refl;
    })
    (λ l. passes_user r.pattern marks w l (sym c.is_mark.ensures ∙ c.if-is_mark.false)
    (sym c.is_mark-2.ensures ∙ c.if-is_mark-2.true)))

pub returns-then-eq-clause-goes_on : goal.returns-then-eq-clause-goes_on
returns-then-eq-clause-goes_on c =
    let marks = marks_view c.args.marks in
    let r = c.args.self.now in
    let w = c.split_first.result.0.now in
    let next : Remainder =
    record { pattern = r.pattern; rest = c.split_first.result.1 } in
    λ l ls. level_is marks r next w
    (record {
      rest = ap levels_left c.in-Some.is ∙ c.split_first.ensures;
      no_hash = sym c.is_last_hash.ensures ∙ c.if-is_last_hash.false;
      pattern = refl;
    })
    (sym c.is_mark.ensures ∙ c.if-is_mark.false) (sym c.is_mark-2.ensures ∙ c.if-is_mark-2.false)
    l ls
    ∙ ap (λ b. (b || bytes_eq w l) && covers marks ls next) (sym c.eq.ensures ∙ c.if-eq.true)

pub returns-clause-goes_on : goal.returns-clause-goes_on
returns-clause-goes_on c =
    let r = c.args.self.now in
    level_only (marks_view c.args.marks) r
    (record { pattern = r.pattern; rest = c.split_first.result.1 }) c.split_first.result.0.now
    (record {
      rest = ap levels_left c.in-Some.is ∙ c.split_first.ensures;
      no_hash = sym c.is_last_hash.ensures ∙ c.if-is_last_hash.false;
      pattern = refl;
    })
    (sym c.is_mark.ensures ∙ c.if-is_mark.false) (sym c.is_mark-2.ensures ∙ c.if-is_mark-2.false)
    (sym c.eq.ensures ∙ c.if-eq.false)
