use Rattle.std.proofs.Common.{◌≡◌, ℕ, List, ◌∷◌, ap, sym, ◌∙◌, subst, false, not, ◌&&◌, map}
use Rattle.std.proofs.Common.{reverse, ◌-◌}
use Rattle.std.specs.List.{list_all, list_any}
use Rattle.std.specs.Option.{option_map_or}
use Rattle.std.proofs.lemmas.Option.{same_Some}
use Rattle.mq_cover.specs.Remainders.{marks_view, covers, IsFound, FindsNothing}
use Rattle.mq_cover.specs.Paths.{levels_of}
use Rattle.mq_cover.specs.Names.{behind}
use Rattle.mq_cover.specs.Choices.{IsBestIfAny}
use Rattle.mq_cover.proofs.FoundLemmas.{found_here, nothing_open, nothing_here}
use Rattle.mq_cover.proofs.FoundLemmas.{nothing_further, nothing_behind}
use Rattle.mq_cover.proofs.found.+find.Goals as goal

pub returns-then-some_open-clause-none : goal.returns-then-some_open-clause-none
returns-then-some_open-clause-none t c = λ e.
    nothing_open (marks_view c.args.marks) c.args.start c.args.budget c.args.must.now
    c.args.cover.now (sym c.some_open.ensures ∙ c.if-some_open.true)

pub returns-then-hits_end-clause-some : goal.returns-then-hits_end-clause-some
returns-then-hits_end-clause-some t c = λ path e.
    let marks = marks_view c.args.marks in
    let none = ap (λ items. reverse (map (λ level. level.now) items)) c.new.ensures.items in
    subst (IsFound c.args.start c.args.budget marks c.args.must.now c.args.cover.now)
    (sym none ∙ ap levels_of (same_Some _ _ e))
    (found_here marks c.args.start c.args.budget c.args.must.now c.args.cover.now
    (sym c.hits_end.ensures ∙ c.if-hits_end.true))

pub returns-then-budget-eq0-clause-none : goal.returns-then-budget-eq0-clause-none
returns-then-budget-eq0-clause-none t c = λ e.
    nothing_here (marks_view c.args.marks) c.args.start c.args.budget c.args.must.now
    c.args.cover.now c.if-budget-eq0.true (sym c.hits_end.ensures ∙ c.if-hits_end.false)

pub returns-in_default-clause-none : goal.returns-in_default-clause-none
returns-in_default-clause-none t c = λ e.
    let marks = marks_view c.args.marks in
    nothing_further marks c.args.start c.args.budget c.args.must.now c.args.cover.now
    (sym c.hits_end.ensures ∙ c.if-hits_end.false)
    (subst (IsBestIfAny c.args.start marks c.args.others c.args.must.now) c.in_default.is
    c.best_level.ensures.best)

pub returns-in_default-2-clause-none : goal.returns-in_default-2-clause-none
returns-in_default-2-clause-none t c = λ e.
    let marks = marks_view c.args.marks in
    let level = c.in-Some.level.now in
    nothing_behind marks c.args.start c.args.budget c.args.others c.args.must.now c.args.cover.now
    level
    (subst (IsBestIfAny c.args.start marks c.args.others c.args.must.now) c.in-Some.is
    c.best_level.ensures.best)
    c.requires.cover (sym c.hits_end.ensures ∙ c.if-hits_end.false)
    (λ ls s h. ap (λ b. b && not (list_any (covers marks (level ∷ ls)) c.args.cover.now))
    (c.in_ok-must.ensures.covers ls
    ∙ ap (λ o. option_map_or (λ v. list_all (covers marks ls) v.items) o false) c.in_default-2.is))

pub returns-in_default-3-clause-none : goal.returns-in_default-3-clause-none
returns-in_default-3-clause-none t c = λ e.
    let marks = marks_view c.args.marks in
    let level = c.in-Some.level.now in
    let must = c.in-Some-2.must.items in
    let cover = c.in_ok-cover.cover.items in
    let all : (ls : List (List ℕ)) → list_all (covers marks (level ∷ ls)) c.args.must.now
    ≡ list_all (covers marks ls) must =
    λ ls. c.in_ok-must.ensures.covers ls
    ∙ ap (λ o. option_map_or (λ v. list_all (covers marks ls) v.items) o false) c.in-Some-2.is in
    let left : FindsNothing (behind c.args.start level) (c.args.budget - 1) marks must cover =
    subst (λ start. FindsNothing start (c.args.budget - 1) marks must cover)
    c.behind-behind.ensures
    (subst (λ rs. FindsNothing c.behind-behind.result (c.args.budget - 1) marks rs cover)
    c.deref.ensures.value
    (subst (λ rs. FindsNothing c.behind-behind.result (c.args.budget - 1) marks
    c.deref.result.now rs) c.deref-2.ensures.value
    (c.in_ok-path.ensures.none c.in_default-3.is))) in
    nothing_behind marks c.args.start c.args.budget c.args.others c.args.must.now c.args.cover.now
    level
    (subst (IsBestIfAny c.args.start marks c.args.others c.args.must.now) c.in-Some.is
    c.best_level.ensures.best)
    c.requires.cover (sym c.hits_end.ensures ∙ c.if-hits_end.false)
    (λ ls s h. (λ i. all ls i && not (c.in_ok-cover.ensures.covers ls i)) ∙ left ls s h)
