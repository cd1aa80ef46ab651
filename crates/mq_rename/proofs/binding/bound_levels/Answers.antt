use Rattle.std.proofs.Common.{◌≡◌, ◌+◌, ◌∷◌, [], List, ℕ, length, drop, lit<, ap, sym, ◌∙◌, subst}
use Rattle.std.proofs.Common.{arith, false}
use Rattle.std.specs.Iterator.Adapters.{zip_first, zip_second}
use Rattle.std.specs.List.{zip}
use Rattle.std.specs.Option.{option_map}
use Rattle.std.specs.Slice.Iter.{iter_rest}
use Rattle.std.specs.Str.Iter.{split_text, split_has_more, split_pattern}
use Rattle.std.proofs.lemmas.Iterator.{YieldsList-from_slice, YieldsList-from_zip}
use Rattle.std.proofs.lemmas.Iterator.Consumers.{YieldsList-end, YieldsList-turn}
use Rattle.std.proofs.lemmas.Iterator.Splits.{YieldsList-from_str_split}
use Rattle.std.proofs.lemmas.List.{drop_all, drop_more, length_push, length-map}
use Rattle.mq_topic.specs.Levels.{levels, levels_left}
use Rattle.mq_rename.specs.Bounds.{bind}
use Rattle.mq_rename.specs.Lists.{is_hash, is_last_hash, levels_match, texts}
use Rattle.mq_rename.proofs.FitLemmas.{filter_is_fit}
use Rattle.mq_rename.proofs.MatchLemmas.{match_hash}
use Rattle.mq_rename.proofs.BindLemmas.{BindsOn, IsBinding, bind_on, made, place_is, plus_inside}
use Rattle.mq_rename.proofs.BoundLemmas.{binding_starts, ends_bound, ends_last, ends_none}
use Rattle.mq_rename.proofs.BoundLemmas.{ends_tail, none_left, rule_is}
use Rattle.mq_rename.proofs.binding.bound_levels.Goals as goal
use Rattle.mq_rename.proofs.binding.bound_levels.Goals.{In-None, In-Some}

pub loop-level-init : goal.loop-level-init
loop-level-init c = record {
  can_next = (tt, tt);
  is_finite = tt;
  bound = rw (c.in_ok-bound.ensures, c.text.ensures.text, c.text-2.ensures.text)
      (binding_starts (levels c.args.left.now) (levels c.args.right.now) c.args.places.now
      (levels c.args.filter.now) (rule_is c.args.left.now c.args.right.now c.args.places.now
      c.requires)
      (filter_is_fit c.args.left.now c.text.ensures.valid)
      (filter_is_fit c.args.right.now c.text-3.ensures.valid)
      (filter_is_fit c.args.filter.now c.text-2.ensures.valid));
}

-- the level on the right and its place, and those behind them
abbrev first : In-Some → List ℕ × ℕ
first c = (c.in-Some.level.now, c.in-Some.place.now)

abbrev behind : In-Some → List (List ℕ × ℕ)
behind c =
    drop (length c.loop-level.yielded + 1) (zip (levels c.args.right.now) c.args.places.now)

-- they come next
next_is : (c : In-Some)
    → drop (length c.loop-level.yielded) (zip (levels c.args.right.now) c.args.places.now)
    ≡ first c ∷ behind c
next_is c =
    let same = c.into_iter-level-iterator.ensures.into_iter_gives in
    let left = ap zip_first same ∙ c.zip-level-items.ensures.first in
    let split = c.split.ensures in
    let pairs = zip (levels c.args.right.now) c.args.places.now in
    let turn = YieldsList-turn (YieldsList-from_zip
    (YieldsList-from_str_split 47 c.args.right.now (lit< tt)
    (ap split_text left ∙ split.text ∙ c.text-3.ensures.text)
    (ap split_has_more left ∙ split.has_more) (ap split_pattern left ∙ split.pattern))
    (YieldsList-from_slice c.args.places.now
    (ap (λ z. iter_rest (zip_second z)) same ∙ c.zip-level-items.ensures.second.0)))
    c.loop-level.yielded c.loop-level.level-iterator c.loop-level.yielded_by c.next.result
    c.next.new.self (c.in-Some.level, c.in-Some.place) c.in-Some.is c.next.ensures.steps in
    drop_more pairs (length c.loop-level.yielded) (first c) turn.0
    ∙ ap (λ q. q ∷ behind c) (sym turn.1)

-- the rule is bound up to there
here : (c : In-Some) → IsBinding (levels c.args.left.now)
    (zip (levels c.args.right.now) c.args.places.now) (levels c.args.filter.now)
    (texts c.loop-level.bound.items) (first c ∷ behind c) (levels_left c.loop-level.filter_rest)
here c = rw (next_is c) at c.loop-level.invariant.bound

-- and no level on the right is left
nothing_left : (c : In-None) → IsBinding (levels c.args.left.now)
    (zip (levels c.args.right.now) c.args.places.now) (levels c.args.filter.now)
    (texts c.loop-level.bound.items) [] (levels_left c.loop-level.filter_rest)
nothing_left c =
    let same = c.into_iter-level-iterator.ensures.into_iter_gives in
    let left = ap zip_first same ∙ c.zip-level-items.ensures.first in
    let split = c.split.ensures in
    let pairs = zip (levels c.args.right.now) c.args.places.now in
    let end = YieldsList-end (YieldsList-from_zip
    (YieldsList-from_str_split 47 c.args.right.now (lit< tt)
    (ap split_text left ∙ split.text ∙ c.text-3.ensures.text)
    (ap split_has_more left ∙ split.has_more) (ap split_pattern left ∙ split.pattern))
    (YieldsList-from_slice c.args.places.now
    (ap (λ z. iter_rest (zip_second z)) same ∙ c.zip-level-items.ensures.second.0)))
    c.loop-level.yielded c.loop-level.level-iterator c.loop-level.yielded_by c.next.result
    c.next.new.self c.in-None.is c.next.ensures.steps in
    let size = end.1 in
    rw (drop_all (length c.loop-level.yielded) pairs (omega (arith, size)))
    at c.loop-level.invariant.bound

pub returns-then-eq : goal.returns-then-eq
returns-then-eq c =
    let at = (goal.at.returns-then-eq c).In-Some in
    rw c.in_ok-with_tail.ensures
    (ends_tail (first at) (behind at) (here at) (sym c.eq.ensures ∙ c.if-eq.true))

pub returns-in_default : goal.returns-in_default
returns-in_default c =
    let at = (goal.at.returns-in_default c).In-Some in
    let left = levels c.args.left.now in
    ends_none (levels c.args.right.now) c.args.places.now (here at)
    (λ n. ap (λ rest. levels_match (levels_left rest) (made left n (first at ∷ behind at)))
    c.in_default.is ∙ none_left left n (first at) (behind at) (sym c.eq.ensures ∙ c.if-eq.false))

pub returns-then-is_last_hash : goal.returns-then-is_last_hash
returns-then-is_last_hash c =
    let at = (goal.at.returns-then-is_last_hash c).In-Some in
    ends_bound (here at)
    (λ n. ap (λ fs. levels_match fs (made (levels c.args.left.now) n (first at ∷ behind at)))
    (ap levels_left c.in-Some-filter_rest.is ∙ c.split_first.ensures)
    ∙ match_hash c.split_first.result.0.now (levels_left c.split_first.result.1) _
    (sym c.is_last_hash.ensures ∙ c.if-is_last_hash.true))

pub bind-requires : goal.bind-requires
bind-requires c = λ plus.
    let at = (goal.at.bind-requires c).In-Some in
    let left = levels c.args.left.now in
    let is = here at in
    let inside = plus_inside left c.in-Some.place.now
    (place_is left (first at) (behind at) is.placed plus) in
    let size = is.shaped.size in
    let lent = length-map c.loop-level.bound.items (λ part. part.now) in
    omega (arith, inside, size, lent)

-- the next level of the filter is bound, too
bound_on : (c : In-Some) (wanted : List ℕ) (after : List (List ℕ))
    → levels_left c.loop-level.filter_rest ≡ wanted ∷ after → is_hash c.in-Some.level.now ≡ false
    → is_last_hash wanted after ≡ false → BindsOn (levels c.args.left.now)
    (zip (levels c.args.right.now) c.args.places.now) (levels c.args.filter.now) (behind c) after
    (bind (texts c.loop-level.bound.items) c.in-Some.level.now c.in-Some.place.now wanted)
bound_on c wanted after rest plain inner = bind_on (rw rest at (here c)) plain inner

pub returns-in_default-bind : goal.returns-in_default-bind
returns-in_default-bind c =
    let at = (goal.at.returns-in_default-bind c).In-Some in
    subst (BindsOn (levels c.args.left.now) (zip (levels c.args.right.now) c.args.places.now)
    (levels c.args.filter.now) (behind at) (levels_left c.split_first.result.1))
    (sym (sym (ap (λ o. option_map (λ all. texts all.items) o) c.in_default-bind.is)
    ∙ c.bind.ensures))
    (bound_on at c.split_first.result.0.now (levels_left c.split_first.result.1)
    (ap levels_left c.in-Some-filter_rest.is ∙ c.split_first.ensures)
    (sym c.eq.ensures ∙ c.if-eq.false) (sym c.is_last_hash.ensures ∙ c.if-is_last_hash.false))

pub loop-level-preserved : goal.loop-level-preserved
loop-level-preserved c =
    let at = (goal.at.loop-level-preserved c).In-Some in
    let after = levels_left c.split_first.result.1 in
    record {
      can_next = (tt, tt);
      is_finite = tt;
      bound = rw (length_push c.loop-level.yielded (c.in-Some.level, c.in-Some.place))
          (subst (BindsOn (levels c.args.left.now)
          (zip (levels c.args.right.now) c.args.places.now) (levels c.args.filter.now) (behind at)
          after) (sym c.in-Some-bind.ensures)
          (bound_on at c.split_first.result.0.now after
          (ap levels_left c.in-Some-filter_rest.is ∙ c.split_first.ensures)
          (sym c.eq.ensures ∙ c.if-eq.false)
          (sym c.is_last_hash.ensures ∙ c.if-is_last_hash.false)));
    }

pub returns : goal.returns
returns c =
    rw c.if_ended.ensures (ends_last (levels c.args.right.now) c.args.places.now
    (nothing_left (goal.at.returns c).In-None))
