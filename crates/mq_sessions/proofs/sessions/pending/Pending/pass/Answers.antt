use Rattle.std.proofs.Common.{◌≡◌, ◌∙◌, ◌∷◌, Some, arith, ap, drop, length, map, subst, sym}
use Rattle.std.specs.List.{filter, find}
use Rattle.std.specs.Rc.{rc_str_bytes}
use Rattle.std.specs.declared.cmp.Ordering.TheVariants.{Less, Equal, Greater}
use Rattle.mq_world.specs.Lists.{text_cmp}
use Rattle.mq_sessions.specs.Pending.{AreAscending, is_beyond, is_for}
use Rattle.mq_sessions.specs.Views.{queue_item_of}
use Rattle.mq_sessions.proofs.PendingLemmas.{at_front, no_front, popped_front, ascending_rest}
use Rattle.mq_sessions.proofs.PendingLemmas.{passed_before, passed_here, passed_beyond}
use Rattle.mq_sessions.proofs.sessions.pending.Pending.pass.Goals as goal

pub loop-first-init : goal.loop-first-init
loop-first-init c = record {
  ascend = c.self.invariant;
  found = ap (find (is_for c.args.id.now)) c.self.view_is;
  left = ap (filter (is_beyond c.args.id.now)) c.self.view_is;
}

pub loop-first-smaller-in-Less : goal.loop-first-smaller-in-Less
loop-first-smaller-in-Less c =
    let is = at_front c.loop-first.self-inside.copies.items c.in-Some.first c.in-Some.ensures.item
    ∙ ap (λ l. c.in-Some.first.now ∷ l) (sym c.pop_front.ensures.rest) in
    grind (arith, ap length is)

pub loop-first-preserved-in-Less : goal.loop-first-preserved-in-Less
loop-first-preserved-in-Less c =
    let is = at_front c.loop-first.self-inside.copies.items c.in-Some.first c.in-Some.ensures.item
    ∙ ap (λ l. c.in-Some.first.now ∷ l) (sym c.pop_front.ensures.rest) in
    let asc : AreAscending (queue_item_of c.in-Some.first.now
    ∷ map queue_item_of c.pop_front.new.self.items) =
    subst (λ l. AreAscending (map queue_item_of l)) is c.loop-first.invariant.ascend in
    let less : text_cmp (rc_str_bytes c.in-Some.first.now.client) c.args.id.now ≡ Less =
    ap (λ t. text_cmp t c.args.id.now) (sym c.as_str.ensures.value) ∙ sym c.cmp.ensures
    ∙ c.in-Less.is in
    let passed = passed_before c.args.id.now (queue_item_of c.in-Some.first.now)
    (map queue_item_of c.pop_front.new.self.items) less in
    record {
      ascend = ascending_rest _ _ asc;
      found = sym passed.0 ∙ ap (λ l. find (is_for c.args.id.now) (map queue_item_of l)) (sym is)
          ∙ c.loop-first.invariant.found;
      left = sym passed.1
          ∙ ap (λ l. filter (is_beyond c.args.id.now) (map queue_item_of l)) (sym is)
          ∙ c.loop-first.invariant.left;
    }

pub invariant_of-self : goal.invariant_of-self
invariant_of-self c =
    let is = at_front c.loop-first.self-inside.copies.items c.in-Some.first c.in-Some.ensures.item
    ∙ ap (λ l. c.in-Some.first.now ∷ l) (sym c.pop_front-in-Equal.ensures.rest) in
    let asc : AreAscending (queue_item_of c.in-Some.first.now
    ∷ map queue_item_of c.pop_front-in-Equal.new.self.items) =
    subst (λ l. AreAscending (map queue_item_of l)) is c.loop-first.invariant.ascend in
    ascending_rest _ _ asc

pub returns-in-Equal-clause-found : goal.returns-in-Equal-clause-found
returns-in-Equal-clause-found c =
    let is = at_front c.loop-first.self-inside.copies.items c.in-Some.first c.in-Some.ensures.item
    ∙ ap (λ l. c.in-Some.first.now ∷ l) (sym c.pop_front-in-Equal.ensures.rest) in
    let asc : AreAscending (queue_item_of c.in-Some.first.now
    ∷ map queue_item_of c.pop_front-in-Equal.new.self.items) =
    subst (λ l. AreAscending (map queue_item_of l)) is c.loop-first.invariant.ascend in
    let same : text_cmp (rc_str_bytes c.in-Some.first.now.client) c.args.id.now ≡ Equal =
    ap (λ t. text_cmp t c.args.id.now) (sym c.as_str.ensures.value) ∙ sym c.cmp.ensures
    ∙ c.in-Equal.is in
    let passed = passed_here c.args.id.now (queue_item_of c.in-Some.first.now)
    (map queue_item_of c.pop_front-in-Equal.new.self.items) same asc in
    let popped : c.pop_front-in-Equal.result ≡ Some c.in-Some.first.now =
    popped_front is c.pop_front-in-Equal.ensures.items in
    rw popped (sym passed.0 ∙ ap (λ l. find (is_for c.args.id.now) (map queue_item_of l)) (sym is)
    ∙ c.loop-first.invariant.found)

pub returns-in-Equal-clause-left : goal.returns-in-Equal-clause-left
returns-in-Equal-clause-left c =
    let is = at_front c.loop-first.self-inside.copies.items c.in-Some.first c.in-Some.ensures.item
    ∙ ap (λ l. c.in-Some.first.now ∷ l) (sym c.pop_front-in-Equal.ensures.rest) in
    let asc : AreAscending (queue_item_of c.in-Some.first.now
    ∷ map queue_item_of c.pop_front-in-Equal.new.self.items) =
    subst (λ l. AreAscending (map queue_item_of l)) is c.loop-first.invariant.ascend in
    let same : text_cmp (rc_str_bytes c.in-Some.first.now.client) c.args.id.now ≡ Equal =
    ap (λ t. text_cmp t c.args.id.now) (sym c.as_str.ensures.value) ∙ sym c.cmp.ensures
    ∙ c.in-Equal.is in
    let passed = passed_here c.args.id.now (queue_item_of c.in-Some.first.now)
    (map queue_item_of c.pop_front-in-Equal.new.self.items) same asc in
    sym passed.1 ∙ ap (λ l. filter (is_beyond c.args.id.now) (map queue_item_of l)) (sym is)
    ∙ c.loop-first.invariant.left

pub invariant_of-self-in-Greater : goal.invariant_of-self-in-Greater
invariant_of-self-in-Greater c = c.loop-first.invariant.ascend

pub returns-in-Greater-clause-found : goal.returns-in-Greater-clause-found
returns-in-Greater-clause-found c =
    let is = at_front c.loop-first.self-inside.copies.items c.in-Some.first c.in-Some.ensures.item in
    let asc : AreAscending (queue_item_of c.in-Some.first.now
    ∷ map queue_item_of (drop 1 c.loop-first.self-inside.copies.items)) =
    subst (λ l. AreAscending (map queue_item_of l)) is c.loop-first.invariant.ascend in
    let more : text_cmp (rc_str_bytes c.in-Some.first.now.client) c.args.id.now ≡ Greater =
    ap (λ t. text_cmp t c.args.id.now) (sym c.as_str.ensures.value) ∙ sym c.cmp.ensures
    ∙ c.in-Greater.is in
    let passed = passed_beyond c.args.id.now (queue_item_of c.in-Some.first.now)
    (map queue_item_of (drop 1 c.loop-first.self-inside.copies.items)) more asc in
    sym passed.0
    ∙ ap (λ l. find (is_for c.args.id.now) (map queue_item_of l)) (sym is)
    ∙ c.loop-first.invariant.found

pub returns-in-Greater-clause-left : goal.returns-in-Greater-clause-left
returns-in-Greater-clause-left c =
    let is = at_front c.loop-first.self-inside.copies.items c.in-Some.first c.in-Some.ensures.item in
    let asc : AreAscending (queue_item_of c.in-Some.first.now
    ∷ map queue_item_of (drop 1 c.loop-first.self-inside.copies.items)) =
    subst (λ l. AreAscending (map queue_item_of l)) is c.loop-first.invariant.ascend in
    let more : text_cmp (rc_str_bytes c.in-Some.first.now.client) c.args.id.now ≡ Greater =
    ap (λ t. text_cmp t c.args.id.now) (sym c.as_str.ensures.value) ∙ sym c.cmp.ensures
    ∙ c.in-Greater.is in
    let passed = passed_beyond c.args.id.now (queue_item_of c.in-Some.first.now)
    (map queue_item_of (drop 1 c.loop-first.self-inside.copies.items)) more asc in
    ap (map queue_item_of) is ∙ sym passed.1
    ∙ ap (λ l. filter (is_beyond c.args.id.now) (map queue_item_of l)) (sym is)
    ∙ c.loop-first.invariant.left

pub invariant_of-self-in_default : goal.invariant_of-self-in_default
invariant_of-self-in_default c = c.loop-first.invariant.ascend

pub returns-clause-found : goal.returns-clause-found
returns-clause-found c =
    let none = no_front c.loop-first.self-inside.copies.items c.in_default.ensures.item in
    sym (ap (λ l. find (is_for c.args.id.now) (map queue_item_of l)) none)
    ∙ c.loop-first.invariant.found

pub returns-clause-left : goal.returns-clause-left
returns-clause-left c =
    let none = no_front c.loop-first.self-inside.copies.items c.in_default.ensures.item in
    ap (map queue_item_of) none
    ∙ sym (ap (λ l. filter (is_beyond c.args.id.now) (map queue_item_of l)) none)
    ∙ c.loop-first.invariant.left
