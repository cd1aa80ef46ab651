use Rattle.std.proofs.Common.{◌≡◌, Bool, true, false, not, bytes_eq, string_bytes, sym, ap, ◌∙◌}
use Rattle.std.proofs.Common.{List, [], ◌∷◌, Option, None, Some, MatchOption, Bor, MutBor}
use Rattle.std.specs.Option.{option_map}
use Rattle.serde_json.specs.Data.{no_members}
use Rattle.serde_json.specs.View.{view}
use Rattle.mq_jsonl.specs.Ahead.{with_next}
use Rattle.mq_jsonl.proofs.AheadLemmas.{other_ahead, found_ahead}
use Rattle.mq_jsonl.proofs.fields.Fields.take.Goals as goal

flipped : (b t : Bool) → t ≡ not b → b ≡ not t
flipped true t h = ap not (sym h)
flipped false t h = ap not (sym h)

pub returns-then-ne-clause-value : goal.returns-then-ne-clause-value
returns-then-ne-clause-value c =
    let name = c.args.name.now in
    let key = string_bytes c.in-Some.key.now in
    let other : bytes_eq name key ≡ false = ap (bytes_eq name) (sym c.as_str.ensures.value)
    ∙ flipped _ _ c.if-ne.ensures in
    rw c.in-Some.is (sym (other_ahead name key (view c.in-Some.field-0-1.now) no_members other))

pub returns-clause-value : goal.returns-clause-value
returns-clause-value c =
    let name = c.args.name.now in
    let key = string_bytes c.in-Some.key.now in
    let same : bytes_eq name key ≡ true = ap (bytes_eq name) (sym c.as_str.ensures.value)
    ∙ flipped _ _ c.if-ne.ensures in
    let taken = c.in-Some-replace.ensures.value ∙ c.in-Some.is in
    ap (option_map (λ p. view p.1.now)) taken
    ∙ sym (found_ahead name key (view c.in-Some.field-0-1.now) no_members same)
    ∙ rw c.in-Some.is

pub returns-in_default-clause-value : goal.returns-in_default-clause-value
returns-in_default-clause-value c = rw c.in_default.is

pub returns-in_default-clause-left : goal.returns-in_default-clause-left
returns-in_default-clause-left c = rw c.in_default.is

pub returns-then-ne-clause-left : goal.returns-then-ne-clause-left
returns-then-ne-clause-left c =
    let name = c.args.name.now in
    let other : bytes_eq name (string_bytes c.in-Some.key.now) ≡ false =
    ap (bytes_eq name) (sym c.as_str.ensures.value) ∙ flipped _ _ c.if-ne.ensures in
    rw (c.in-Some.is, other)

pub returns-in_default-replace-clause-value : goal.returns-in_default-replace-clause-value
returns-in_default-replace-clause-value c = cc (c.in_default-replace.ensures.value, c.in-Some.is)

pub returns-in_default-replace-clause-left : goal.returns-in_default-replace-clause-left
returns-in_default-replace-clause-left c = cc (c.in_default-replace.ensures.value, c.in-Some.is)

-- what is lent next stands before what is left then
next_left : {K X : Type 0} (next : Option (Bor K × MutBor X)) (rest later : List (K × X))
    → MatchOption next ((rest ≡ []) × (later ≡ [])) (λ p. rest ≡ (p.0.now, p.1.now) ∷ later)
    → with_next next later ≡ rest
next_left None rest later h = sym h.0
next_left (Some p) rest later h = sym h

pub returns-clause-left : goal.returns-clause-left
returns-clause-left c =
    let name = c.args.name.now in
    let same : bytes_eq name (string_bytes c.in-Some.key.now) ≡ true =
    ap (bytes_eq name) (sym c.as_str.ensures.value) ∙ flipped _ _ c.if-ne.ensures in
    let left = next_left c.next-next.result c.args.self.now.rest.0 c.next-next.new.self.0
    c.next-next.ensures.steps in
    rw (c.replace.ensures.after, left, c.in-Some.is, same)
