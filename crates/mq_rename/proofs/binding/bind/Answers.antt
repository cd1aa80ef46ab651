use Rattle.std.proofs.Common.{◌≡◌, ◌<◌, true, List, ℕ, [], Bor, Some, length, set, get_or, ap, sym}
use Rattle.std.proofs.Common.{◌∙◌}
use Rattle.std.specs.Option.{option_map}
use Rattle.std.specs.Prelude.{slice_set}
use Rattle.std.proofs.lemmas.Bool.{cond-true}
use Rattle.std.proofs.lemmas.List.{get_or-map, map-set}
use Rattle.mq_rename.specs.Bounds.{bind}
use Rattle.mq_rename.specs.Lists.{is_plus, texts}
use Rattle.mq_rename.specs.Meets.{met_level}
use Rattle.mq_rename.proofs.binding.bind.Goals as goal

-- a level that is bound
bound_is : (bound : List (Bor (List ℕ))) (level wanted : List ℕ) (place : ℕ)
    (old met : Bor (List ℕ)) → is_plus level ≡ true → place < length bound
    → old ≡ get_or bound place old → Some met.now ≡ met_level old.now wanted
    → Some (texts (set bound place met)) ≡ bind (texts bound) level place wanted
bound_is bound level wanted place old met plus in' read is =
    ap (λ ls. Some ls) (map-set (λ part. part.now) bound place met)
    ∙ ap (λ o. option_map (λ l. slice_set (texts bound) place l) o)
    (is ∙ ap (λ l. met_level l wanted)
    (ap (λ b. b.now) read ∙ sym (get_or-map (λ part. part.now) bound place old [] in')))
    ∙ sym (cond-true (is_plus level) _ _ plus)

pub returns-then-eq : goal.returns-then-eq
returns-then-eq c =
    let plus : is_plus c.args.level.now ≡ true = sym c.eq.ensures ∙ c.if-eq.true in
    bound_is c.args.bound.items c.args.level.now c.args.wanted.now c.args.place c.index-old.result.now
    c.in_ok-met.met plus (c.requires plus) c.index-old.ensures c.in_ok-met.ensures
