use Rattle.std.proofs.Common.{◌≡◌, List, All, ap, refl, ◌∙◌, subst}
use Rattle.std.proofs.lemmas.Result.{on_ok_weaker}
use Rattle.mq_differences.specs.Groups.{HasGroup, JoinsGroup, LacksGroup, key_of, places_at}
use Rattle.mq_differences.specs.declared.group.Group.{Group}
use Rattle.mq_differences.proofs.GroupLemmas.{gathered_joined}
use Rattle.mq_differences.proofs.group.Gathering.add.Goals as goal

pub returns-in_default : goal.returns-in_default
returns-in_default c = on_ok_weaker c.begin.result (λ more all s.
    let d = c.args.difference in
    let old = c.args.self.now in
    let places : c.places_at-places.result.now ≡ places_at (key_of d) old =
    c.places_at-places.ensures
    ∙ ap (λ key. places_at key old) (c.as_str.ensures.value ∙ c.in_ok-key.ensures) in
    more all c.in_ok-key.ensures
    (subst (All (LacksGroup old.groups.items d)) places
    (subst (λ (gs : List Group). All (LacksGroup gs d) c.places_at-places.result.now)
    c.deref.ensures.value c.in_default.ensures.lacks)) s) c.begin.ensures

pub returns : goal.returns
returns c = on_ok_weaker c.add_to.result (λ joined all s.
    let old = c.args.self.now in
    let d = c.args.difference in
    gathered_joined all old _ c.in-Some.place c.index_mut.result.now c.add_to.new.group d
    (subst (λ (gs : List Group). HasGroup gs d c.in-Some.place) c.deref.ensures.value
    c.in-Some.ensures.has)
    (subst (λ g. JoinsGroup g d c.add_to.new.group) c.index_mut.ensures.value joined) refl refl s)
    c.add_to.ensures
