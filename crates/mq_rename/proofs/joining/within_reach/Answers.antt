use Rattle.std.proofs.Common.{◌≡◌, ◌==◌, ◌&&◌, true, List, ℕ, [], length, take, Bor, get_or, arith}
use Rattle.std.proofs.Common.{ap, sym, ◌∙◌}
use Rattle.std.proofs.lemmas.Bool.{and_from, cond-true, eq-eqb}
use Rattle.std.proofs.lemmas.List.{get_or-map, length-map, take-map}
use Rattle.mq_topic.specs.Matching.{level_at}
use Rattle.mq_rename.specs.Joins.{within_reach}
use Rattle.mq_rename.specs.Lists.{is_hash, texts}
use Rattle.mq_rename.proofs.joining.within_reach.Goals as goal

-- what is kept of levels that end with a `#` out of reach
cut_is : (parts : List (Bor (List ℕ))) (d : Bor (List ℕ)) → length parts ≡ 201
    → is_hash (get_or parts 200 d).now ≡ true → texts (take 200 parts) ≡ within_reach (texts parts)
cut_is parts d size hash =
    let all = texts parts in
    let far : ((length all == 201) && is_hash (level_at all 200)) ≡ true =
    and_from (length all == 201) (is_hash (level_at all 200))
    (eq-eqb (length all) 201 (length-map parts (λ part. part.now) ∙ size))
    (ap is_hash (get_or-map (λ part. part.now) parts 200 d [] (omega arith)) ∙ hash) in
    sym (take-map (λ part. part.now) 200 parts)
    ∙ sym (cond-true ((length all == 201) && is_hash (level_at all 200)) (take 200 all) all far)

pub returns-then-eq : goal.returns-then-eq
returns-then-eq c = ap texts c.split_at.ensures.front
    ∙ cut_is c.args.parts.now _ c.if-parts.true (sym c.eq.ensures ∙ c.if-eq.true)
