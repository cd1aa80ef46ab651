-- Where no id that is tried has a name, no id has.
use Rattle.std.proofs.Common.{◌≡◌, ℕ, ◌==◌, ◌≤◌, Bool, true, false, cond, ◌&&◌, ◌||◌, List, [], ◌∷◌}
use Rattle.std.proofs.Common.{length, Option, Some, None, codes, bytes_eq, refl, ap, sym, ◌∙◌, map}
use Rattle.std.proofs.Common.{subst, if◌then◌else◌, inl, inr, arith, Bor}
use Rattle.std.specs.List.{list_all, onto_first}
use Rattle.std.proofs.lemmas.Bool.{and_parts, and_from, or_left, or_right, leb-true}
use Rattle.std.proofs.lemmas.Bool.{le-leb, false_from_ne_true, cond_both, eqb-true}
use Rattle.std.proofs.lemmas.Bool.Decides.{nat_tests}
use Rattle.std.proofs.lemmas.List.{length-map}
use Rattle.mq_topic.proofs.ByteLemmas.{text_is, text_itself, text_flip}
use Rattle.mq_topic.specs.Matching.{is_wildcard, levels_match_by}
use Rattle.mq_acl.specs.Access.{begins_with_dollar, is_user}
use Rattle.mq_cover.specs.Names.{can_be_level, is_choice, is_name_level, suits}
use Rattle.mq_cover.specs.Remainders.{covers, hits, mark_passes, FindsNothing, MarkLevels, passes}
use Rattle.mq_cover.specs.declared.remainder.Remainder.{Remainder}
use Rattle.mq_cover.proofs.NameLemmas.{choice_is_level}
use Rattle.mq_cover.proofs.TextLemmas.{or_cases}
use Rattle.mq_witness.specs.Clients.{can_be_id}
use Rattle.mq_witness.specs.Fresh.{is_literal, IsFreshId}
use Rattle.mq_witness.specs.Literals.{has_mark, is_literal_of, is_literal_in}
use Rattle.mq_witness.specs.Names.{are_begun, start_at}
use Rattle.mq_witness.specs.Ready.{CanAsk, is_front}
use Rattle.mq_witness.specs.Roots.{all_begin, marks_of, left_begins}
use Rattle.mq_witness.specs.Texts.{level_of}
use Rattle.mq_witness.specs.Tried.{is_tried_client}
use Rattle.mq_witness.specs.declared.fresh.Fresh.{Fresh}
use Rattle.mq_witness.specs.declared.names.Names.{Names}
use Rattle.mq_witness.proofs.FreshMoves.{move, CanMove, StaysAtFront, has_ids, literal_is}
use Rattle.mq_witness.proofs.FreshMoves.{moved_client}
use Rattle.mq_witness.proofs.FreshMoves.{moved_kept, moved_user, move_keep, moved_by, no}
use Rattle.mq_witness.proofs.FreshMoves.{suits_moved}
use Rattle.mq_witness.proofs.LiteralLemmas.{level_is_no_wildcard, literals_pass}
use Rattle.mq_witness.proofs.MoveLemmas.{Moves, hits_moved}
use Rattle.mq_topic.specs.Levels.{levels, levels_left}
use Rattle.mq_cover.proofs.RemainderLemmas.{covers_cons}

-- a level that a row may name is no wildcard
pub literal_is_no_wildcard : (f : Fresh) (w : List ℕ) → is_literal f w ≡ true
    → is_wildcard w ≡ false
literal_is_no_wildcard f w h = level_is_no_wildcard w (literal_is f w h).level

-- a level of a name that isn't empty is an id that a broker can have
pub level_can_be_id : (id : List ℕ) → is_name_level id ≡ true → (length id == 0) ≡ false
    → can_be_id id ≡ true
level_can_be_id id level some = grind (arith, leb-true, le-leb, nat_tests)

-- an id that stands for others is such an id
pub fresh_can_be_id : (f : Fresh) (id : List ℕ) → IsFreshId f id → can_be_id id ≡ true
fresh_can_be_id f id h = level_can_be_id id (choice_is_level f.others id h.choice) h.some

-- a level that may be chosen is a level
pub level_of_choice : (f : Fresh) (v : List ℕ) → is_choice f.others v ≡ true
    → level_of (Some v) ≡ Some v
level_of_choice f v h =
    ap (λ b. cond b (Some v) None)
    (and_parts _ _ (choice_is_level f.others v h)).0

-- what passes as an id passes as a level
pub level_known : (p : List ℕ → Bool) (user : Option (List ℕ)) → mark_passes p user ≡ true
    → mark_passes p (level_of user) ≡ true
level_known p None h = h
level_known p (Some u) h =
    cond_both (can_be_level u) _ _ (λ m. mark_passes p m ≡ true) (λ e. h) (λ e. refl)

-- a level that is the user's passes what the user name does
pub user_passes : (p : List ℕ → Bool) (user : Option (List ℕ)) (l : List ℕ)
    → mark_passes p user ≡ true → is_user l user ≡ true → p l ≡ true
user_passes p None l h e = absurd (let n : false ≡ true = e in cc)
user_passes p (Some x) l h e = ap p (text_is l x e) ∙ h

-- ---- the first level of a name that begins with `$`
module _ (pattern : Bool) (marks : MarkLevels) (l : List ℕ) (ls : List (List ℕ)) where
  -- a level that begins with `$` is passed by itself alone
  dollar_level : (p : List ℕ) → passes pattern marks (36 ∷ p) l ≡ true
      → bytes_eq (36 ∷ p) l ≡ true
  dollar_level p h = grind arith

  dollar_levels : (p : List ℕ) (ps : List (List ℕ))
      → levels_match_by (passes pattern marks) ((36 ∷ p) ∷ ps) (l ∷ ls) ≡ true
      → is_literal_in l ((36 ∷ p) ∷ ps) ≡ true
  dollar_levels p ps h = grind (arith, dollar_level, covers_cons, text_flip)

  dollar_onto : (parts : List (List ℕ))
      → levels_match_by (passes pattern marks) (onto_first 36 parts) (l ∷ ls) ≡ true
      → is_literal_in l (onto_first 36 parts) ≡ true
  dollar_onto [] h = dollar_levels [] [] h
  dollar_onto (p ∷ ps) h = dollar_levels p ps h

  dollar_text : (text : List ℕ) → begins_with_dollar text ≡ true
      → levels_match_by (passes pattern marks) (levels text) (l ∷ ls) ≡ true
      → is_literal_in l (levels text) ≡ true
  dollar_text [] e h = absurd (let n : false ≡ true = e in cc)
  dollar_text (x ∷ xs) e h = grind (arith, eqb-true, dollar_onto)

  dollar_rest : (rest : Option (Bor (List ℕ))) → left_begins rest ≡ true
      → levels_match_by (passes pattern marks) (levels_left rest) (l ∷ ls) ≡ true
      → is_literal_in l (levels_left rest) ≡ true
  dollar_rest None e h = absurd (let n : false ≡ true = e in cc)
  dollar_rest (Some text) e h = dollar_text text.now e h

-- where filters that begin with `$` cover a name, they name its first level, if there is a filter
pub front_is_literal : (r : Remainder) (rs : List Remainder) (marks : MarkLevels) (l : List ℕ)
    (ls : List (List ℕ)) → all_begin (r ∷ rs) ≡ true
    → list_all (covers marks (l ∷ ls)) (r ∷ rs) ≡ true → is_literal_of l (r ∷ rs) ≡ true
front_is_literal r rs marks l ls e h =
    or_left _ _ (dollar_rest r.pattern marks l ls r.rest (and_parts _ _ e).0 (and_parts _ _ h).0)

-- ---- the tests of a client id and of a level for a user name
abbrev pub client_test : List Remainder → List ℕ → List ℕ → Bool
client_test must c l = has_mark (codes "%c") must && bytes_eq l c

abbrev pub user_test : List Remainder → Option (List ℕ) → List ℕ → Bool
user_test must u l = has_mark (codes "%u") must && is_user l u

-- the client id in the place of another, where levels are moved so
abbrev pub new_client : Fresh → List Remainder → (List ℕ → List ℕ) → List ℕ → List ℕ
new_client f must g c = if has_mark (codes "%c") must then g c else f.client.now

module _ {f : Fresh} (must : List Remainder) (c : List ℕ) {keep user : List ℕ → Bool}
    (can : CanMove f keep user (client_test must c)) where
  abbrev moved : List ℕ → List ℕ
  moved l = move f keep user (client_test must c) l

  pub client_forth : has_mark (codes "%c") must ≡ true → (l : List ℕ) → bytes_eq l c ≡ true
      → bytes_eq (moved l) (new_client f must moved c) ≡ true
  client_forth m l e = ap (λ b. bytes_eq (moved l) (cond b (moved c) f.client.now)) m
      ∙ ap (λ t. bytes_eq (moved t) (moved c)) (text_is l c e) ∙ text_itself (moved c)

  abbrev IsBack : List ℕ → List ℕ → Type 0
  IsBack l t = bytes_eq (moved l) t ≡ true → bytes_eq l c ≡ true

  pub client_back : (l : List ℕ) → IsBack l (new_client f must moved c)
  client_back l =
      cond_both (has_mark (codes "%c") must) _ _ (IsBack l)
      (λ m.
      let itself = and_from (has_mark (codes "%c") must) (bytes_eq c c) m (text_itself c) in
      moved_by can (IsBack l) c
      (λ k e. text_flip l c ∙ (moved_kept can c l (can.kept c k) (text_flip c (moved l) ∙ e)).1)
      (λ n u e. ap (λ t. bytes_eq t c) (can.one_user l c (moved_user can l e) u) ∙ text_itself c)
      (λ n i. clients) (λ n i. no i itself))
      (λ m. clients)
    where
      clients : IsBack l f.client.now
      clients e = (and_parts (has_mark (codes "%c") must) (bytes_eq l c) (moved_client can l e)).1

-- ---- names
-- a question, as far as its filters go
module _ {f : Fresh} {names : Names} {must cover : List Remainder}
    (ask : CanAsk f names must cover) (c : List ℕ) {keep user : List ℕ → Bool}
    (can : CanMove f keep user (client_test must c))
    (keeps : (w : List ℕ) → is_literal_of w must ≡ true → keep w ≡ true)
    (nobody : must ≡ [] → (l : List ℕ) → user l ≡ false) where
  -- where all of the first filters cover a name, its first level stays where names begin with `$`
  front_stays : (rs : List Remainder) → rs ≡ must → (b : Bool) → are_begun names ≡ b
      → (u : Option (List ℕ)) (l : List ℕ) (ls : List (List ℕ)) → is_front f b rs ≡ true
      → list_all (covers (marks_of c u) (l ∷ ls)) rs ≡ true → StaysAtFront can names l
  front_stays rs e false b u l ls begin h = inr (inr (ap (has_ids f) b ∙ begin))
  front_stays rs e true b u l ls begin h =
      or_cases (has_ids f true) _ begin (λ k. inr (inr (ap (has_ids f) b ∙ k))) (named rs e h)
    where
      named : (rs : List Remainder) → rs ≡ must
          → list_all (covers (marks_of c u) (l ∷ ls)) rs ≡ true → all_begin rs ≡ true
          → StaysAtFront can names l
      named [] e h g =
          inr (inl (nobody (sym e) l, ap (λ m. has_mark (codes "%c") m && bytes_eq l c) (sym e)))
      named (r ∷ rs) e h g = inl (keeps l (ap (is_literal_of l) (sym e)
          ∙ front_is_literal r rs (marks_of c u) l ls g h))

  -- a name that is hit is hit with its levels moved, by the new client id and this level for a user
  pub moved_hit : (u v : Option (List ℕ))
      → Moves (is_literal f) (move f keep user (client_test must c)) (marks_of c u)
      (marks_of (new_client f must (move f keep user (client_test must c)) c) v) must
      → FindsNothing (start_at names) 200
      (marks_of (new_client f must (move f keep user (client_test must c)) c) v) must cover
      → (ls : List (List ℕ)) → suits (start_at names) ls ≡ true → length ls ≤ 200
      → hits (marks_of c u) ls must cover ≡ true → ⊥
  moved_hit u v moves none [] s few h = grind arith
  moved_hit u v moves none (l ∷ ls) s few h =
      let g = move f keep user (client_test must c) in
      let stays = front_stays must refl (are_begun names) refl u l ls ask.begin (and_parts _ _ h).0
      in
      let hit = hits_moved (is_literal f) (literal_is_no_wildcard f) g (marks_of c u)
      (marks_of (new_client f must g c) v) must cover (l ∷ ls) moves ask.must_fits ask.cover_fits
      h in
      let miss = none (map g (l ∷ ls)) (suits_moved can names l ls stays s)
      (subst (λ k. k ≤ 200) (sym (length-map (l ∷ ls) g)) few) in
      let n : true ≡ false = sym hit ∙ miss in cc

-- ---- one user name, or none
abbrev pub kept_with : List Remainder → Option (List ℕ) → List ℕ → Bool
kept_with must u l = is_literal_of l must || is_user l u

abbrev pub is_nobody : List ℕ → Bool
is_nobody l = false

module _ {f : Fresh} {names : Names} {must cover : List Remainder}
    (ask : CanAsk f names must cover) (u : Option (List ℕ))
    (apart : mark_passes (is_literal f) u ≡ true) (c : List ℕ) where
  fixed_can : CanMove f (kept_with must u) is_nobody (client_test must c)
  fixed_can = grind (arith, literals_pass, user_passes)

  abbrev fixed : List ℕ → List ℕ
  fixed l = move f (kept_with must u) is_nobody (client_test must c) l

  fixed_moves : Moves (is_literal f) fixed (marks_of c u) (marks_of (new_client f must fixed c) u)
      must
  fixed_moves = record {
    kept = λ w h. move_keep fixed_can w (or_left _ _ h);
    client = client_forth must c fixed_can;
    user = λ m l h. ap (λ t. is_user t u)
        (move_keep fixed_can l (or_right (is_literal_of l must) _ h)) ∙ h;
    back = λ w l h e. (moved_kept fixed_can w l h e).1;
    client_back = client_back must c fixed_can;
    user_back = λ l. by u apart l;
  }
    where
      by : (m : Option (List ℕ)) → mark_passes (is_literal f) m ≡ true → (l : List ℕ)
          → is_user (fixed l) m ≡ true → is_user l m ≡ true
      by None p l e = e
      by (Some x) p l e =
          text_flip l x ∙ (moved_kept fixed_can x l p (text_flip x (fixed l) ∙ e)).1

  fixed_tried : can_be_id c ≡ true → is_tried_client f u must (new_client f must fixed c) ≡ true
  fixed_tried id = cond_both (has_mark (codes "%c") must) (fixed c) f.client.now IsTried
      (λ m. moved_by fixed_can IsTried c (λ k. or_right _ _ (and_from _ _ (and_from _ _ m
      (or_flip (is_literal_of c must) (is_user c u) k)) id)) (λ n k. absurd (let e : false ≡ true =
      k in cc)) (λ n k. fresh) (λ n k. no k (and_from _ _ m (text_itself c)))) (λ m. fresh)
    where
      IsTried : List ℕ → Type 0
      IsTried t = is_tried_client f u must t ≡ true

      fresh : IsTried f.client.now
      fresh = or_left _ _ (text_itself f.client.now)

      or_flip : (a b : Bool) → (a || b) ≡ true → (b || a) ≡ true
      or_flip a b h = grind arith

  -- where no client id that is tried has a name, no client id has one
  pub fixed_none : can_be_id c ≡ true
      → ((t : List ℕ) → is_tried_client f u must t ≡ true
      → FindsNothing (start_at names) 200 (marks_of t u) must cover)
      → FindsNothing (start_at names) 200 (marks_of c u) must cover
  fixed_none id none ls s few = false_from_ne_true (hits (marks_of c u) ls must cover)
      (moved_hit ask c fixed_can (λ w h. or_left _ _ h) (λ e l. refl) u u fixed_moves
      (none (new_client f must fixed c) (fixed_tried id)) ls s few)
