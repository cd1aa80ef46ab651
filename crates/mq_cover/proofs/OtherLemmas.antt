-- The level that no row names.
use Rattle.std.proofs.Common.{◌≡◌, ℕ, ◌==◌, Bool, true, false, not, ◌&&◌, ◌||◌, List, [], ◌∷◌}
use Rattle.std.proofs.Common.{length, codes, Option, Some, None, refl, ap, sym, ◌∙◌, bytes_eq}
use Rattle.std.proofs.Common.{cond}
use Rattle.std.specs.List.{list_any}
use Rattle.std.proofs.lemmas.Bool.{and_parts, and_from, or_left, or_right}
use Rattle.std.proofs.Math.Bool.{or-false}
use Rattle.mq_topic.proofs.ByteLemmas.{text_is, text_itself}
use Rattle.mq_topic.specs.Levels.{levels_left}
use Rattle.mq_topic.specs.Matching.{levels_match_by}
use Rattle.mq_acl.specs.Access.{begins_with_dollar, is_user}
use Rattle.mq_cover.specs.Remainders.{MarkLevels, passes, covers, fits, remainder_fits}
use Rattle.mq_cover.specs.Remainders.{remainders_fit, mark_passes, marks_pass}
use Rattle.mq_cover.specs.Names.{fits_start, behind, suits, is_name_level, are_others, is_choice}
use Rattle.mq_cover.specs.Choices.{other_at}
use Rattle.mq_cover.specs.declared.remainder.Remainder.{Remainder}
use Rattle.mq_cover.specs.declared.others.Others.{Others}
use Rattle.mq_cover.specs.declared.start.Start.{Start}
use Rattle.mq_cover.specs.declared.start.Start.TheVariants.{Plain, Dollar, Readable, Writable}
use Rattle.mq_cover.specs.declared.start.Start.TheVariants.{Slash, Inside}
use Rattle.mq_cover.proofs.TextLemmas.{or_cases, false_is}
use Rattle.mq_cover.proofs.NameLemmas.{suits_inside, no_dollar}
use Rattle.mq_cover.proofs.RemainderLemmas.{covers_hash, covers_cons, passes_client, passes_user}
use Rattle.mq_cover.proofs.RemainderLemmas.{passes_plain}

-- a mark stands for no level that fails a test that it passes
mark_fails : (p : List ℕ → Bool) (mark : Option (List ℕ)) (other : List ℕ) → p other ≡ false
    → mark_passes p mark ≡ true → is_user other mark ≡ false
mark_fails p None other fails m = refl
mark_fails p (Some level) other fails m = false_is (bytes_eq other level) (p other)
    (λ e. ap p (text_is other level e) ∙ m) fails

-- what passes a level that fails the test passes each level
passes_each : (p : List ℕ → Bool) (pattern : Bool) (marks : MarkLevels) (w other l : List ℕ)
    → p other ≡ false → marks_pass p marks ≡ true
    → (bytes_eq w (codes "+") || p w) ≡ true → passes pattern marks w other ≡ true
    → passes pattern marks w l ≡ true
passes_each p pattern marks w other l fails m fit h =
    at_client (pattern && bytes_eq w (codes "%c")) refl
  where
    at_plain : (pattern && bytes_eq w (codes "%c")) ≡ false
        → (pattern && bytes_eq w (codes "%u")) ≡ false → (plus : Bool)
        → bytes_eq w (codes "+") ≡ plus → passes pattern marks w l ≡ true
    at_plain c u true plus = passes_plain pattern marks w l c u
        ∙ ap (λ b. b || bytes_eq w l) plus
    at_plain c u false plus =
        let same = text_is w other (sym (ap (λ b. b || bytes_eq w other) plus)
        ∙ sym (passes_plain pattern marks w other c u) ∙ h) in
        let passed = sym (ap (λ b. b || p w) plus) ∙ fit in
        absurd (let e : false ≡ true = sym fails ∙ sym (ap p same) ∙ passed in cc)

    at_user : (pattern && bytes_eq w (codes "%c")) ≡ false → (b : Bool)
        → (pattern && bytes_eq w (codes "%u")) ≡ b → passes pattern marks w l ≡ true
    at_user c true u =
        let passed = mark_fails p marks.user other fails
        (and_parts (mark_passes p marks.client) (mark_passes p marks.user) m).1 in
        absurd (let e : false ≡ true = sym passed
        ∙ sym (passes_user pattern marks w other c u) ∙ h in cc)
    at_user c false u = at_plain c u (bytes_eq w (codes "+")) refl

    at_client : (b : Bool) → (pattern && bytes_eq w (codes "%c")) ≡ b
        → passes pattern marks w l ≡ true
    at_client true c =
        let passed = mark_fails p marks.client other fails
        (and_parts (mark_passes p marks.client) (mark_passes p marks.user) m).0 in
        absurd (let e : false ≡ true = sym passed ∙ sym (passes_client pattern marks w other c) ∙ h
        in cc)
    at_client false c = at_user c (pattern && bytes_eq w (codes "%u")) refl

-- levels of a filter that pass a test match, behind each level, what they match behind one that
-- fails it
match_each : (p : List ℕ → Bool) (pattern : Bool) (marks : MarkLevels) (ws : List (List ℕ))
    (other l : List ℕ) (ls : List (List ℕ)) → p other ≡ false → marks_pass p marks ≡ true
    → fits p ws ≡ true → levels_match_by (passes pattern marks) ws (other ∷ ls) ≡ true
    → levels_match_by (passes pattern marks) ws (l ∷ ls) ≡ true
match_each p pattern marks [] other l ls fails m fit h = absurd (let e : false ≡ true = h in cc)
match_each p pattern marks (w ∷ ws) other l ls fails m fit h =
    at_hash (bytes_eq w (codes "#") && (length ws == 0)) refl
  where
    at_hash : (b : Bool) → (bytes_eq w (codes "#") && (length ws == 0)) ≡ b
        → levels_match_by (passes pattern marks) (w ∷ ws) (l ∷ ls) ≡ true
    at_hash true e = covers_hash (passes pattern marks) w ws (l ∷ ls) e
    at_hash false e =
        let test = passes pattern marks in
        let both = and_parts (test w other) (levels_match_by test ws ls)
        (sym (covers_cons test w other ws ls e) ∙ h) in
        let first = and_parts (bytes_eq w (codes "+") || p w) (fits p ws)
        (sym (ap (λ b. (b || p w) && fits p ws) (or-false (bytes_eq w (codes "+"))))
        ∙ sym (ap (λ b. (bytes_eq w (codes "+") || b || p w) && fits p ws) e) ∙ fit) in
        covers_cons test w l ws ls e
        ∙ and_from (test w l) (levels_match_by test ws ls)
        (passes_each p pattern marks w other l fails m first.0 both.0) both.1

-- a filter covers, behind each level, what it covers behind one that it can't name
monotone : (p : List ℕ → Bool) (marks : MarkLevels) (r : Remainder) (other l : List ℕ)
    (ls : List (List ℕ)) → p other ≡ false → marks_pass p marks ≡ true → remainder_fits p r ≡ true
    → covers marks (other ∷ ls) r ≡ true → covers marks (l ∷ ls) r ≡ true
monotone p marks r other l ls fails m fit h =
    match_each p r.pattern marks (levels_left r.rest) other l ls fails m fit h

-- and so does one of some filters
pub some_monotone : (p : List ℕ → Bool) (marks : MarkLevels) (rs : List Remainder)
    (other l : List ℕ) (ls : List (List ℕ)) → p other ≡ false → marks_pass p marks ≡ true
    → remainders_fit p rs ≡ true → list_any (covers marks (other ∷ ls)) rs ≡ true
    → list_any (covers marks (l ∷ ls)) rs ≡ true
some_monotone p marks [] other l ls fails m fit h = h
some_monotone p marks (r ∷ rs) other l ls fails m fit h =
    let both = and_parts (remainder_fits p r) (remainders_fit p rs) fit in
    or_cases (covers marks (other ∷ ls) r) (list_any (covers marks (other ∷ ls)) rs) h
    (λ e. or_left (covers marks (l ∷ ls) r) (list_any (covers marks (l ∷ ls)) rs)
    (monotone p marks r other l ls fails m both.0 e))
    (λ e. or_right (covers marks (l ∷ ls) r) (list_any (covers marks (l ∷ ls)) rs)
    (some_monotone p marks rs other l ls fails m both.1 e))

-- what is known of the level that no row names
pub record IsOther (start : Start) (others : Others) (level : List ℕ) : Type 0 where
  pub fit : fits_start start level ≡ true
  pub some : (length level == 0) ≡ false
  pub valid : is_name_level level ≡ true
  pub unnamed : is_choice others level ≡ false

no_choice : (v d : Bool) → (v && not true && d) ≡ false
no_choice true d = refl
no_choice false d = refl

no_choice_last : (v : Bool) → (v && not true) ≡ false
no_choice_last true = refl
no_choice_last false = refl

-- what the test of the two levels says
others_are : (s f v d w : Bool) → (not s && f && v && d && w) ≡ true → (s ≡ false)
    × ((f ≡ true) × ((v ≡ true) × ((d ≡ true) × (w ≡ true))))
others_are true f v d w h = absurd (let e : false ≡ true = h in cc)
others_are false false v d w h = absurd (let e : false ≡ true = h in cc)
others_are false true false d w h = absurd (let e : false ≡ true = h in cc)
others_are false true true false w h = absurd (let e : false ≡ true = h in cc)
others_are false true true true w h = (refl, (refl, (refl, (refl, h))))

plain_unnamed : (others : Others) → is_choice others others.plain.now ≡ false
plain_unnamed others =
    let plain = others.plain.now in
    ap (λ b. is_name_level plain && not b && not (bytes_eq plain others.dollar.now))
    (text_itself plain) ∙ no_choice (is_name_level plain) (not (bytes_eq plain others.dollar.now))

dollar_unnamed : (others : Others) → is_choice others others.dollar.now ≡ false
dollar_unnamed others =
    let dollar = others.dollar.now in
    ap (λ b. is_name_level dollar && not (bytes_eq dollar others.plain.now) && not b)
    (text_itself dollar) ∙ no_choice_last (is_name_level dollar
    && not (bytes_eq dollar others.plain.now))

-- the level that no row names may stand here
pub other_is : (start : Start) (others : Others) → are_others others ≡ true
    → IsOther start others (other_at start others)
other_is start others h =
    at_start start (others_are (length others.plain.now == 0)
    (not (begins_with_dollar others.plain.now)) (is_name_level others.plain.now)
    (fits_start Writable others.dollar.now) (is_name_level others.dollar.now) h)
  where
    at_start : (s : Start) → ((length others.plain.now == 0) ≡ false)
        × ((not (begins_with_dollar others.plain.now) ≡ true)
        × ((is_name_level others.plain.now ≡ true)
        × ((fits_start Writable others.dollar.now ≡ true)
        × (is_name_level others.dollar.now ≡ true)))) → IsOther s others (other_at s others)
    at_start Plain f = record {
      fit = f.1.0;
      some = f.0;
      valid = f.1.1.0;
      unnamed =
          plain_unnamed others;
    }
    at_start Dollar f =
        let begins = (and_parts _ _ f.1.1.1.0).0 in
        record {
          fit = begins;
          some = no_dollar others.dollar.now begins;
          valid = f.1.1.1.1;
          unnamed = dollar_unnamed others;
        }
    at_start Readable f =
        let parts = and_parts (begins_with_dollar others.dollar.now) _ f.1.1.1.0 in
        record {
          fit = and_from _ _ parts.0 (and_parts _ _ parts.1).0;
          some = no_dollar others.dollar.now parts.0;
          valid = f.1.1.1.1;
          unnamed = dollar_unnamed others;
        }
    at_start Writable f = record {
      fit = f.1.1.1.0;
      some = no_dollar others.dollar.now (and_parts _ _ f.1.1.1.0).0;
      valid = f.1.1.1.1;
      unnamed = dollar_unnamed others;
    }
    at_start Slash f = record {
      fit = refl;
      some = f.0;
      valid = f.1.1.0;
      unnamed =
          plain_unnamed others;
    }
    at_start Inside f = record {
      fit = refl;
      some = f.0;
      valid = f.1.1.0;
      unnamed =
          plain_unnamed others;
    }

-- behind a level with some bytes a name may end
behind_some : (start : Start) (level : List ℕ) → (length level == 0) ≡ false
    → behind start level ≡ Inside
behind_some Plain level e = ap (λ b. cond b Slash Inside) e
behind_some Dollar level e = refl
behind_some Readable level e = refl
behind_some Writable level e = refl
behind_some Slash level e = refl
behind_some Inside level e = refl

-- any levels may follow it, even where none may follow another
pub suits_other : (start : Start) (other : List ℕ) (ls : List (List ℕ))
    → fits_start start other ≡ true → (length other == 0) ≡ false
    → suits start (other ∷ ls) ≡ true
suits_other start other ls f e =
    (λ i. f i && (ap (λ s. suits s ls) (behind_some start other e) ∙ suits_inside ls) i)
