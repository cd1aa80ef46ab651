use Rattle.std.proofs.Common.{◌≡◌, ◌∙◌, ◌∷◌, [], ℕ, List, ap, not, rules, subst}
use Rattle.std.proofs.lemmas.Bool.{and_parts}
use Rattle.mq_regions.specs.Regions.{in_kind, is_taken}
use Rattle.mq_rename.specs.Lists.{texts}
use Rattle.mq_through.specs.Parts.{IsOfPlan}
use Rattle.mq_through.proofs.AddLemmas.{both_have, dollar_part, empty_taken}
use Rattle.mq_through.proofs.AddLemmas.{plain_part, pushed_has, pushed_widens, widens_both}
use Rattle.mq_through.proofs.parts.add_part.Goals as goal

pub returns-then-is_empty-clause-widens : goal.returns-then-is_empty-clause-widens
returns-then-is_empty-clause-widens c = λ plan of.
    let parts = c.args.parts.now.items in
    let mid = c.push.new.self.items in
    let new = c.push-then-is_empty.new.self.items in
    let one = c.in_ok-without.field-0 in
    let other = c.in_ok-without-2.field-0 in
    let kind = c.args.kind in
    let none : texts c.args.taken.items ≡ [] = empty_taken c.args.taken.items (search rules) in
    let of_none : IsOfPlan plan [] kind =
    subst (λ (ts : List (List ℕ)). IsOfPlan plan ts kind) none of in
    widens_both plan parts mid new
    (pushed_widens plan parts mid one (record { is = c.in_ok-push.ensures.items })
    (dollar_part plan kind one (record {
      taken = c.in_ok-without.ensures.taken ∙ ap (λ f. f ∷ []) c.requires.dollar;
      kind_is = c.in_ok-without.ensures.kind;
    }) of_none))
    (pushed_widens plan mid new other (record { is = c.in_ok-push-2.ensures.items })
    (plain_part plan kind other (record {
      taken = c.in_ok-without-2.ensures.taken ∙ ap (λ f. f ∷ []) c.requires.plain;
      kind_is = c.in_ok-without-2.ensures.kind;
    }) of_none))

pub returns-then-is_empty-clause-has : goal.returns-then-is_empty-clause-has
returns-then-is_empty-clause-has c = λ topic e.
    both_have c.args.kind c.args.parts.now.items c.push.new.self.items
    c.push-then-is_empty.new.self.items c.in_ok-without.field-0 c.in_ok-without-2.field-0 topic
    (record {
      taken = c.in_ok-without.ensures.taken ∙ ap (λ f. f ∷ []) c.requires.dollar;
      kind_is = c.in_ok-without.ensures.kind;
    })
    (record {
      taken = c.in_ok-without-2.ensures.taken ∙ ap (λ f. f ∷ []) c.requires.plain;
      kind_is = c.in_ok-without-2.ensures.kind;
    })
    (record { is = c.in_ok-push.ensures.items }) (record { is = c.in_ok-push-2.ensures.items })
    (and_parts (not (is_taken (texts c.args.taken.items) topic)) (in_kind c.args.kind topic) e).1

pub returns-clause-has : goal.returns-clause-has
returns-clause-has c = λ topic e.
    pushed_has c.args.parts.now.items c.push-2.new.self.items
    (record { taken = c.args.taken; kind = c.args.kind }) topic
    (record { is = c.in_ok-push-3.ensures.items }) e
