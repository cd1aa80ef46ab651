-- Members that are put one after the other.
use Rattle.std.proofs.Common.{◌≡◌, ℕ, List, [], ◌∷◌, ◌++◌, map, false, ◌||◌, Ordering, Less, Equal, Greater, refl, ap, ◌∙◌}
use Rattle.std.proofs.Common.{Option, Some, None, nat_cmp, Bor, BTreeMap, string_bytes, String, Global}
use Rattle.std.specs.Cmp.Lexicographic.{slice_cmp}
use Rattle.std.specs.Ordering.{match_ordering}
use Rattle.std.specs.Option.{option_copied, option_map}
use Rattle.std.proofs.lemmas.Bool.{or_parts, or_from}
use Rattle.serde_json.specs.Data.{Data, string, object, Members, no_members, member, put}
use Rattle.serde_json.specs.View.{items_of, members_view, view}
use Rattle.serde_json.specs.declared.value.Value.{Value, Object}
use Rattle.serde_json.proofs.Views.{view-Object}
use Rattle.serde_json.specs.Written.{compact_text, has_float, items_have_float, members_have_float}
use Rattle.mq_print.specs.Objects.{datum_data, exception_data, line_data, text_data, with_data}
use Rattle.mq_print.specs.declared.json.Datum.{Datum}
use Rattle.mq_print.specs.declared.json.Datum.TheVariants as datum
use Rattle.mq_print.specs.declared.json.Exception.{Exception}
use Rattle.mq_print.specs.Lists.{LineView, line_view}

-- one more goes in last
pub with_data-last : (ms : Members) (ds : List (Bor (List ℕ) × Datum)) (d : Bor (List ℕ) × Datum)
    → with_data ms (ds ++ d ∷ []) ≡ put d.0.now (datum_data d.1) (with_data ms ds)
with_data-last ms [] d = refl
with_data-last ms (e ∷ ds) d = with_data-last (put e.0.now (datum_data e.1) ms) ds d

-- ---- none is a float
chosen_none : (o : Ordering) (a b c : Members) → members_have_float a ≡ false
    → members_have_float b ≡ false → members_have_float c ≡ false
    → members_have_float (match_ordering o a b c) ≡ false
chosen_none Less a b c p q r = p
chosen_none Equal a b c p q r = q
chosen_none Greater a b c p q r = r

put_none : (k : List ℕ) (d : Data) (ms : Members) → has_float d ≡ false
    → members_have_float ms ≡ false → members_have_float (put k d ms) ≡ false
put_none k d no_members p q = or_from (has_float d) false p refl
put_none k d (member l e ms) p q =
    let here = (or_parts (has_float e) (members_have_float ms) q).0 in
    let rest = (or_parts (has_float e) (members_have_float ms) q).1 in
    chosen_none (slice_cmp nat_cmp k l) (member k d (member l e ms)) (member l d ms)
    (member l e (put k d ms))
    (or_from (has_float d) _ p q) (or_from (has_float d) _ p rest)
    (or_from (has_float e) _ here (put_none k d ms p rest))

texts_none : (texts : List (String Global))
    → items_have_float (items_of (map (λ text. string (string_bytes text)) texts)) ≡ false
texts_none [] = refl
texts_none (text ∷ texts) = texts_none texts

text_none : (text : Option (List ℕ)) → has_float (text_data text) ≡ false
text_none None = refl
text_none (Some text) = refl

line_none : (line : Option LineView) → has_float (line_data line) ≡ false
line_none None = refl
line_none (Some line) = refl

exception_none : (it : Exception) → has_float (exception_data it) ≡ false
exception_none it = or_from (has_float (line_data (option_map line_view it.line)))
    (has_float (text_data (option_copied it.user)) || false) (line_none (option_map line_view it.line))
    (or_from (has_float (text_data (option_copied it.user))) false
    (text_none (option_copied it.user)) refl)

exceptions_none : (all : List Exception)
    → items_have_float (items_of (map exception_data all)) ≡ false
exceptions_none [] = refl
exceptions_none (it ∷ all) = or_from _ _ (exception_none it) (exceptions_none all)

datum_none : (d : Datum) → has_float (datum_data d) ≡ false
datum_none (datum.Text text) = refl
datum_none (datum.TextIf text) = text_none (option_copied text)
datum_none (datum.Texts texts) = texts_none texts.now
datum_none (datum.Number n) = refl
datum_none (datum.NumberIf None) = refl
datum_none (datum.NumberIf (Some n)) = refl
datum_none (datum.Flag flag) = refl
datum_none (datum.LineIf line) = line_none (option_map line_view line)
datum_none (datum.Exceptions all) = exceptions_none all.now

members_none : (ms : Members) (ds : List (Bor (List ℕ) × Datum)) → members_have_float ms ≡ false
    → members_have_float (with_data ms ds) ≡ false
members_none ms [] none = none
members_none ms (d ∷ ds) none = members_none (put d.0.now (datum_data d.1) ms) ds
    (put_none d.0.now (datum_data d.1) ms (datum_none d.1) none)

-- so the text of an object of such members is the compact one
pub text_of_object : (m : BTreeMap (String Global) Value) (ds : List (Bor (List ℕ) × Datum))
    (text : List ℕ) → members_view m.entries ≡ with_data no_members ds
    → (has_float (view (Object m)) ≡ false → text ≡ compact_text (view (Object m)))
    → text ≡ compact_text (object (with_data no_members ds))
text_of_object m ds text same printed =
    let none : has_float (view (Object m)) ≡ false =
    rw (view-Object m, same) (members_none no_members ds refl) in
    printed none ∙ ap compact_text (view-Object m) ∙ ap (λ ms. compact_text (object ms)) same
