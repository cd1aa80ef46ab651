use Rattle.std.proofs.Common.{◌≡◌, ◌∙◌, Option, Some, None, List, [], ap, sym, Global, Vec}
use Rattle.std.specs.BTreeMap.{get_by_text}
use Rattle.std.specs.Option.{option_map_or}
use Rattle.mq_ask_who.specs.Refusals.{key}
use Rattle.mq_ask_who.proofs.RefusalLemmas.{kept_beside}
use Rattle.mq_ask_who.proofs.refusals.Refusals.beside.Goals as goal
use Rattle.mq_differences.specs.declared.difference.Difference.{Difference}

items_in : Option (Vec Difference Global) → List Difference
items_in all = option_map_or (λ v. v.items) all []

pub returns-in-Some : goal.returns-in-Some
unfolding items_in
returns-in-Some c = λ refused kept.
    let d = c.args.granted.now in
    let text : c.as_str.result.now ≡ key d = c.as_str.ensures.value ∙ c.in_ok-key.ensures in
    let found : get_by_text c.args.self.now.by_key (key d) ≡ Some c.in-Some.all.now =
    ap (get_by_text c.args.self.now.by_key) (sym text) ∙ sym c.in-Some.ensures.value in
    c.deref.ensures.value ∙ sym (ap items_in found) ∙ kept (key d) ∙ kept_beside refused d

pub returns : goal.returns
unfolding items_in
returns c = λ refused kept.
    let d = c.args.granted.now in
    let text : c.as_str.result.now ≡ key d = c.as_str.ensures.value ∙ c.in_ok-key.ensures in
    let found : get_by_text c.args.self.now.by_key (key d) ≡ None =
    ap (get_by_text c.args.self.now.by_key) (sym text) ∙ sym c.in-None.ensures.value in
    sym (ap items_in found) ∙ kept (key d) ∙ kept_beside refused d
