-- The ids that are tried, one by one.
use Rattle.std.proofs.Common.{◌≡◌, ℕ, ◌<◌, ◌≤◌, ◌+◌, Bool, true, false, ◌||◌, List, [], ◌∷◌, length}
use Rattle.std.proofs.Common.{get_or, drop, bytes_eq, ap, sym, ◌∙◌, subst, Option, Some, None, Bor}
use Rattle.std.proofs.Common.{arith, zero, suc, IfSome, IfNone, IfOk, Result}
use Rattle.std.proofs.lemmas.Bool.{and_from, and_parts, or_right}
use Rattle.std.proofs.lemmas.List.{drop_more}
use Rattle.std.proofs.lemmas.Result.{IfOk-weaker}
use Rattle.std.proofs.Math.ListN.{drop_of_length-le}
use Rattle.mq_topic.proofs.ByteLemmas.{text_is, text_itself}
use Rattle.mq_acl.specs.Access.{is_user}
use Rattle.mq_cover.specs.Names.{is_choice}
use Rattle.mq_cover.specs.Remainders.{mark_passes, marks_pass, remainders_fit}
use Rattle.mq_cover.specs.declared.remainder.Remainder.{Remainder}
use Rattle.mq_cover.proofs.TextLemmas.{or_cases}
use Rattle.mq_witness.specs.Answers.{Misses, MissesOthers, MissesUser}
use Rattle.mq_witness.specs.Clients.{can_be_id}
use Rattle.mq_witness.specs.Fresh.{fresh_pass, is_literal}
use Rattle.mq_witness.specs.Literals.{is_among, is_literal_of, is_named}
use Rattle.mq_witness.specs.Ready.{CanAsk}
use Rattle.mq_witness.specs.Roots.{marks_of}
use Rattle.mq_witness.specs.Texts.{level_of}
use Rattle.mq_witness.specs.Tried.{is_tried_client, is_tried_user}
use Rattle.mq_witness.specs.declared.fresh.Fresh.{Fresh}
use Rattle.mq_witness.specs.declared.literals.Literals.{Literals}
use Rattle.mq_witness.specs.declared.names.Names.{Names}
use Rattle.mq_witness.specs.declared.question.Question.{Question}
use Rattle.mq_witness.proofs.FreshMoves.{literal_is_choice}
use Rattle.mq_witness.proofs.LiteralLemmas.{literals_pass}
use Rattle.mq_witness.proofs.TriedLemmas.{fresh_can_be_id, level_known, user_passes}

-- ---- texts one by one
-- it is true of each text that is left
abbrev pub AllLeft : (List ℕ → Type 0) → List (Bor (List ℕ)) → ℕ → Type 0
AllLeft P items i = (t : List ℕ) → is_among t (drop i items) ≡ true → P t

abbrev pub AllOf : (List ℕ → Type 0) → List (Bor (List ℕ)) → Type 0
AllOf P items = (t : List ℕ) → is_among t items ≡ true → P t

-- where it is true of the next one, it is true of all that are left if it is of those behind that
pub one_more : (P : List ℕ → Type 0) (items : List (Bor (List ℕ))) (i : ℕ) (d : Bor (List ℕ))
    → i < length items → P (get_or items i d).now → (AllLeft P items i → AllOf P items)
    → AllLeft P items (i + 1) → AllOf P items
one_more P items i d h here all left = all (λ t e.
    or_cases (bytes_eq t (get_or items i d).now) (is_among t (drop (i + 1) items))
    (sym (ap (is_among t) (drop_more items i d h)) ∙ e)
    (λ k. subst P (sym (text_is t (get_or items i d).now k)) here) (left t))

-- in the end none is left
pub none_left : (P : List ℕ → Type 0) (items : List (Bor (List ℕ))) (i : ℕ) → length items ≤ i
    → AllLeft P items i
none_left P items i h t e = absurd (let n : false ≡ true =
    sym (ap (is_among t) (drop_of_length-le items {i = i} h)) ∙ e in cc)

-- the text at a place is among them
pub among_at : (items : List (Bor (List ℕ))) (i : ℕ) (d : Bor (List ℕ)) → i < length items
    → is_among (get_or items i d).now items ≡ true
among_at [] i d h = absurd (omega arith)
among_at (x ∷ xs) zero d h = ap (λ b. b || is_among x.now xs) (text_itself x.now)
among_at (x ∷ xs) (suc i) d h =
    or_right (bytes_eq (get_or xs i d).now x.now) _ (among_at xs i d (omega arith))

-- ---- what is tried
module _ {f : Fresh} {names : Names} {must cover : List Remainder}
    (ask : CanAsk f names must cover) where
  -- what holds of the id that stands for others, of the user name and of what is named holds of each that is tried
  client_by : (P : List ℕ → Type 0) (u : Option (List ℕ)) (c : List ℕ)
      → is_tried_client f u must c ≡ true → P f.client.now → (is_user c u ≡ true → P c)
      → (is_literal_of c must ≡ true → P c) → P c
  client_by P u c h here user named = or_cases (bytes_eq c f.client.now) _ h
      (λ e. subst P (sym (text_is c f.client.now e)) here)
      (λ e. or_cases (is_user c u) _ (and_parts _ _ (and_parts _ _ e).0).1 user named)

  user_by : (P : List ℕ → Type 0) (u : List ℕ) → is_tried_user f must u ≡ true → P f.user.now
      → (is_literal_of u must ≡ true → P u) → P u
  user_by P u h here named = or_cases (bytes_eq u f.user.now) _ h
      (λ e. subst P (sym (text_is u f.user.now e)) here)
      (λ e. named (and_parts _ _ (and_parts _ _ e).0).1)

  literal : (w : List ℕ) → is_literal_of w must ≡ true → is_choice f.others w ≡ true
  literal w h = literal_is_choice f w (literals_pass (is_literal f) must ask.must_fits w h)

  pub client_is_choice : (u : Option (List ℕ)) → mark_passes (is_choice f.others) u ≡ true
      → (c : List ℕ) → is_tried_client f u must c ≡ true → is_choice f.others c ≡ true
  client_is_choice u fit c h = client_by (λ t. is_choice f.others t ≡ true) u c h
      ask.fresh.client.choice (user_passes (is_choice f.others) u c fit) (literal c)

  -- what is known of the texts that a question is given is known of what is tried
  pub client_is_known : (p : List ℕ → Bool) (u : Option (List ℕ)) (c : List ℕ)
      → is_tried_client f u must c ≡ true → fresh_pass p f ≡ true → remainders_fit p must ≡ true
      → mark_passes p u ≡ true → p c ≡ true
  client_is_known p u c h fresh fit known = client_by (λ t. p t ≡ true) u c h
      (and_parts _ _ (and_parts _ _ fresh).0).1 (user_passes p u c known)
      (literals_pass p must fit c)

  pub user_is_known : (p : List ℕ → Bool) (u : List ℕ) → is_tried_user f must u ≡ true
      → fresh_pass p f ≡ true → remainders_fit p must ≡ true → p u ≡ true
  user_is_known p u h fresh fit =
      user_by (λ t. p t ≡ true) u h (and_parts _ _ fresh).1 (literals_pass p must fit u)

  pub client_is_id : (u : Option (List ℕ)) (c : List ℕ) → is_tried_client f u must c ≡ true
      → can_be_id c ≡ true
  client_is_id u c h = or_cases (bytes_eq c f.client.now) _ h
      (λ e. ap can_be_id (text_is c f.client.now e)
      ∙ fresh_can_be_id f f.client.now ask.fresh.client)
      (λ e. (and_parts _ _ e).1)

  pub user_is_choice : (u : List ℕ) → is_tried_user f must u ≡ true
      → mark_passes (is_choice f.others) (level_of (Some u)) ≡ true
  user_is_choice u h = level_known (is_choice f.others) (Some u)
      (user_by (λ t. is_choice f.others t ≡ true) u h ask.fresh.user.choice (literal u))

  pub user_is_id : (u : List ℕ) → is_tried_user f must u ≡ true → can_be_id u ≡ true
  user_is_id u h = or_cases (bytes_eq u f.user.now) _ h
      (λ e. ap can_be_id (text_is u f.user.now e) ∙ fresh_can_be_id f f.user.now ask.fresh.user)
      (λ e. (and_parts _ _ e).1)

-- both marks may be chosen
pub marks_fit : (f : Fresh) (c : List ℕ) (u : Option (List ℕ)) → is_choice f.others c ≡ true
    → mark_passes (is_choice f.others) u ≡ true
    → marks_pass (is_choice f.others) (marks_of c u) ≡ true
marks_fit f c u e h = and_from _ _ e h

-- where all client ids that are listed miss, all that are tried do
pub user_missed : (q : Question) (user level : Option (List ℕ)) (items : List (Bor (List ℕ)))
    → level ≡ level_of user
    → ((c : List ℕ) → is_among c items ≡ is_tried_client q.fresh level q.must.items c)
    → AllOf (λ c. Misses q c level) items → MissesUser q user
user_missed q user level items e listed all c h =
    subst (Misses q c) e (all c (listed c
    ∙ ap (λ u. is_tried_client q.fresh u q.must.items c) e ∙ h))

-- the same of user names
pub others_missed : (q : Question) (users : Literals) (items : List (Bor (List ℕ)))
    → ((u : List ℕ) → is_among u items ≡ is_tried_user q.fresh q.must.items u)
    → AllOf (λ u. is_named u users ≡ false → MissesUser q (Some u)) items → MissesOthers q users
others_missed q users items listed all u h = all u (listed u ∙ h)

-- ---- answers that may be there
-- what holds of an answer if there is one holds of this one
pub some_at : {X : Type 0} (o : Option X) (x : X) (P : X → Type 0) → o ≡ Some x → IfSome o P → P x
some_at o x P e h = let Q : Option _ → Type 0 = λ m. IfSome m P in subst Q e h

-- what holds if there is none holds where there is none
pub none_at : {X : Type 0} (o : Option X) (P : Type 0) → o ≡ None → IfNone o P → P
none_at o P e h = let Q : Option _ → Type 0 = λ m. IfNone m P in subst Q e h

-- what follows from what holds if there is an answer, or if there is none, holds then
pub some_weaker : {X : Type 0} {P Q : X → Type 0} (o : Option X) → ((x : X) → P x → Q x)
    → IfSome o P → IfSome o Q
some_weaker None f h = tt
some_weaker (Some x) f h = f x h

pub none_weaker : {X : Type 0} {P Q : Type 0} (o : Option X) → (P → Q) → IfNone o P → IfNone o Q
none_weaker None f h = f h
none_weaker (Some x) f h = tt

-- the same where there may be a fault instead
pub some_follows : {X E : Type 0} {P Q : X → Type 0} (r : Result (Option X) E)
    → ((x : X) → P x → Q x) → IfOk r (λ o. IfSome o P) → IfOk r (λ o. IfSome o Q)
some_follows r f = IfOk-weaker r _ _ (λ o. some_weaker o f)

pub none_follows : {X E P Q : Type 0} (r : Result (Option X) E) → (P → Q)
    → IfOk r (λ o. IfNone o P) → IfOk r (λ o. IfNone o Q)
none_follows r f = IfOk-weaker r _ _ (λ o. none_weaker o f)
