-- Client ids that nothing names.
use Rattle.std.proofs.Common.{◌≡◌, ◌<◌, ◌≤◌, ◌==◌, ◌+◌, ℕ, Bool, true, false, not, ◌&&◌}
use Rattle.std.proofs.Common.{List, ◌++◌, length, refl, ap, sym, ◌∙◌, subst}
use Rattle.std.proofs.Common.{arith, length-append, replicate}
use Rattle.std.specs.Prelude.{nat_le, nat_lt}
use Rattle.std.proofs.lemmas.Bool.{and_from, le-leb, le-ltb, lt-ltb, not_from_false, or_from}
use Rattle.std.proofs.lemmas.List.{length-replicate}
use Rattle.std.proofs.lemmas.List.Folds.{list_any-append}
use Rattle.mq_topic.specs.Texts.{contains_byte, is_text}
use Rattle.mq_acl.specs.Access.{begins_with_dollar}
use Rattle.mq_cover.specs.Names.{can_be_level}
use Rattle.mq_regions.specs.Regions.{is_mark}
use Rattle.mq_through.specs.Clients.{IsFresh, IsUnused}
use Rattle.mq_through.specs.Made.{IsClient}
use Rattle.mq_through.specs.Named.{fresh_base}
use Rattle.mq_through.specs.declared.comparison.Comparison.{Comparison}
use Rattle.mq_through.proofs.LongLemmas.{no_byte}

-- what the two bases have
record IsBase (dollar : Bool) (base : List ℕ) : Type 0 where
  pub some : 0 < length base
  pub few : length base ≤ 7
  pub plain : (xs : List ℕ) → is_mark (base ++ xs) ≡ false
  pub begin : (xs : List ℕ) → begins_with_dollar (base ++ xs) ≡ dollar
  pub no_plus : contains_byte 43 base ≡ false
  pub no_hash : contains_byte 35 base ≡ false
  pub no_nul : contains_byte 0 base ≡ false
  pub no_slash : contains_byte 47 base ≡ false

bases : (dollar : Bool) → IsBase dollar (fresh_base dollar)
bases true = record {
  some = omega arith;
  few = omega arith;
  plain = λ xs. refl;
  begin = λ xs. refl;
  no_plus = refl;
  no_hash = refl;
  no_nul = refl;
  no_slash = refl;
}
bases false = record {
  some = omega arith;
  few = omega arith;
  plain = λ xs. refl;
  begin = λ xs. refl;
  no_plus = refl;
  no_hash = refl;
  no_nul = refl;
  no_slash = refl;
}

module _ (dollar : Bool) (base : List ℕ) (b : IsBase dollar base) (count : ℕ)
    (low : count ≤ 290) where
  abbrev text : List ℕ
  text = base ++ replicate count 120

  size : length text ≡ length base + count
  size =
      let tail : length {A = ℕ} (replicate count 120) ≡ count =
      length-replicate {A = ℕ} count 120 in
      length-append base (replicate count 120) ∙ ap (λ n. length base + n) tail

  lacks : (x : ℕ) → (120 == x) ≡ false → contains_byte x base ≡ false
      → contains_byte x text ≡ false
  lacks x e h =
      list_any-append (λ c. c == x) base (replicate count 120)
      ∙ or_from (contains_byte x base) (contains_byte x (replicate count 120)) h
      (no_byte x count e)

  text_id : is_text text ≡ true
  text_id =
      let n = size in
      let some = b.some in
      let few = b.few in
      and_from (nat_lt 0 (length text) && nat_le (length text) 65535) (not (contains_byte 0 text))
      (and_from (nat_lt 0 (length text)) (nat_le (length text) 65535)
      (lt-ltb 0 (length text) (omega arith)) (le-leb (length text) 65535 (omega arith)))
      (not_from_false (contains_byte 0 text) (lacks 0 refl b.no_nul))

  text_client : IsClient text
  text_client = record {
    plain = b.plain (replicate count 120);
    short = let n = size in let few = b.few in le-ltb 300 (length text) (omega arith);
    id = text_id;
  }

  text_level : can_be_level text ≡ true
  text_level = (λ i. not (lacks 43 refl b.no_plus i) && not (lacks 35 refl b.no_hash i)
      && not (lacks 0 refl b.no_nul i) && not (lacks 47 refl b.no_slash i))

-- a text that nothing names
pub fresh_is : (c : Comparison) (dollar : Bool) (found : List ℕ)
    → IsUnused c (fresh_base dollar) found → IsFresh c dollar found
fresh_is c dollar found u = record {
  unnamed = u.unnamed;
  client = subst IsClient (sym u.is) (text_client dollar base b u.count u.few);
  begin = ap begins_with_dollar u.is ∙ b.begin (replicate u.count 120);
  level = ap can_be_level u.is ∙ text_level dollar base b u.count u.few;
}
  where
    base : List ℕ
    base = fresh_base dollar

    b : IsBase dollar (fresh_base dollar)
    b = bases dollar
