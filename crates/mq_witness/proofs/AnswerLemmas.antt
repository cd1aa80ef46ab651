-- What a question answers of rows.
use Rattle.std.proofs.Common.{◌≡◌, ℕ, Bool, true, false, cond, not, ◌&&◌, List, [], ◌∷◌, Option}
use Rattle.std.proofs.Common.{Some, None, codes, bytes_eq, refl, ap, sym, ◌∙◌, subst, Bor, ◌⊎◌, inl}
use Rattle.std.proofs.Common.{inr, arith}
use Rattle.std.specs.List.{list_all}
use Rattle.std.proofs.lemmas.Bool.{and_from, and_parts, cond_both, false_from_ne_true, not-true}
use Rattle.mq_topic.proofs.ByteLemmas.{text_is, text_itself}
use Rattle.mq_topic.specs.Levels.{levels}
use Rattle.mq_topic.specs.Matching.{level_matches}
use Rattle.mq_topic.specs.Texts.{is_name}
use Rattle.mq_acl.specs.Access.{applies, begins_with_dollar, is_user}
use Rattle.mq_acl.specs.Rows.{AclRow, Who}
use Rattle.mq_acl.specs.Rows as rows
use Rattle.mq_cover.specs.Names.{can_be_level}
use Rattle.mq_cover.specs.Remainders.{hits, mark_passes, passes, remainders_fit}
use Rattle.mq_cover.specs.declared.remainder.Remainder.{Remainder}
use Rattle.mq_witness.specs.Answers.{Asks, HitsOther, HitsUser, IsFoundBy, Misses, MissesOthers}
use Rattle.mq_witness.specs.Answers.{MissesUser}
use Rattle.mq_witness.specs.Clients.{can_be_id, is_of, name_passes}
use Rattle.mq_witness.specs.Decided.{decides_in}
use Rattle.mq_witness.specs.Fresh.{fresh_pass, is_literal}
use Rattle.mq_witness.specs.Literals.{is_named}
use Rattle.mq_witness.specs.Names.{are_begun, has_front, is_one_of, is_right}
use Rattle.mq_witness.specs.Ready.{AreReady, IsReady, all_listed, clients_fit, is_listed, stand_in}
use Rattle.mq_witness.specs.Roots.{alike, marks_of, same, NoneConcerned}
use Rattle.mq_witness.specs.Texts.{level_of}
use Rattle.mq_shapes.specs.declared.clients.Clients.{Clients}
use Rattle.mq_shapes.specs.declared.clients.Clients.TheVariants.{Anonymous, Named, Others}
use Rattle.mq_witness.specs.declared.fresh.BothFresh.{BothFresh}
use Rattle.mq_witness.specs.declared.fresh.Fresh.{Fresh}
use Rattle.mq_witness.specs.declared.literals.Literals.{Literals}
use Rattle.mq_witness.specs.declared.names.Names.{Names}
use Rattle.mq_witness.specs.declared.question.Found.{Found}
use Rattle.mq_witness.specs.declared.question.Question.{Question}
use Rattle.mq_witness.proofs.MoveLemmas.{hits_same}
use Rattle.mq_witness.proofs.TestLemmas.{all_by}
use Rattle.mq_witness.proofs.FrontLemmas.{front_begun, one_begun, suits_front}
use Rattle.mq_witness.proofs.NameLemmas.{name_is}
use Rattle.mq_witness.proofs.OtherLemmas.{others_none}
use Rattle.mq_witness.proofs.TriedLemmas.{fixed_none, level_known}

-- ---- an id that can't be a level
pub same_user : (user : Option (List ℕ)) (l : List ℕ) → can_be_level l ≡ true
    → is_user l user ≡ is_user l (level_of user)
same_user None l h = refl
same_user (Some u) l h =
    cond_both (can_be_level u) _ _ (λ m. bytes_eq l u ≡ is_user l m) (λ e. refl)
    (λ e. false_from_ne_true _ (λ k.
    let n : true ≡ false = sym h ∙ ap can_be_level (text_is l u k) ∙ e in cc))

same_passes : (pattern : Bool) (client : List ℕ) (user : Option (List ℕ)) (w l : List ℕ)
    → can_be_level l ≡ true → passes pattern (marks_of client user) w l
    ≡ passes pattern (marks_of client (level_of user)) w l
same_passes pattern client user w l h =
    ap (λ b. cond (pattern && bytes_eq w (codes "%c")) (bytes_eq l client)
    (cond (pattern && bytes_eq w (codes "%u")) b (level_matches w l))) (same_user user l h)

-- whether a name is hit depends on a user name only as a level, if it can be one
level_hits : (client : List ℕ) (user : Option (List ℕ)) (ls : List (List ℕ))
    → list_all can_be_level ls ≡ true → (must cover : List Remainder)
    → hits (marks_of client user) ls must cover
    ≡ hits (marks_of client (level_of user)) ls must cover
level_hits client user ls can =
    hits_same can_be_level (marks_of client user) (marks_of client (level_of user))
    (λ pattern. same_passes pattern client user) ls can

-- ---- whom rows apply to
same_self : (b : Bool) → same b b ≡ true
same_self b = grind arith

pub alike_self : (user : Option (List ℕ)) (all : List AclRow) → alike user user all ≡ true
alike_self user [] = refl
alike_self user (row ∷ all) = rw (same_self (applies user row.who)) (alike_self user all)

-- a row applies to neither of two user names that aren't listed, or to both
unlisted_alike : (users : Literals) (u v : List ℕ) → is_named u users ≡ false
    → is_named v users ≡ false → (all : List AclRow) → all_listed users all ≡ true
    → alike (Some u) (Some v) all ≡ true
unlisted_alike users u v e g all = all_by (λ row. is_listed users row.who)
    (λ row. same (applies (Some u) row.who) (applies (Some v) row.who)) (λ row. one row.who) all
  where
    no : (t n : List ℕ) → is_named t users ≡ false → is_named n users ≡ true
        → bytes_eq t n ≡ false
    no t n e h = false_from_ne_true _ (λ k. let m : true ≡ false = sym h
        ∙ ap (λ x. is_named x users) (sym (text_is t n k)) ∙ e in cc)

    one : (who : Who) → is_listed users who ≡ true
        → same (applies (Some u) who) (applies (Some v) who) ≡ true
    one rows.Anonymous k = refl
    one (rows.Named n) k = rw (no u n e k, no v n g k) refl
    one rows.Everyone k = refl

-- rows apply to each client that is asked about as to the user name that stands for all
pub alike_all : (f : Fresh) (users : Literals) (clients : Clients) (all : List AclRow)
    (user : Option (List ℕ)) → is_named f.user.now users ≡ false → all_listed users all ≡ true
    → is_of (λ u. is_named u users) clients user ≡ true → alike user (stand_in f clients) all ≡ true
alike_all f users Anonymous all None n h e = alike_self None all
alike_all f users Anonymous all (Some u) n h e = absurd (let k : false ≡ true = e in cc)
alike_all f users (Named name) all None n h e = absurd (let k : false ≡ true = e in cc)
alike_all f users (Named name) all (Some u) n h e =
    ap (λ t. alike (Some t) (Some name.now) all)
    (text_is u name.now (and_parts _ _ e).0) ∙ alike_self (Some name.now) all
alike_all f users Others all None n h e = absurd (let k : false ≡ true = e in cc)
alike_all f users Others all (Some u) n h e =
    unlisted_alike users u f.user.now (not-true _ (and_parts _ _ e).1) n all h

-- ---- a question that is posed of rows
-- there is no such name for any client that is asked about
abbrev pub NoneFor : Bool → Literals → Clients → Names → (must cover : List AclRow) → Type 0
NoneFor front users clients names must cover =
    (client name : List ℕ) (user : Option (List ℕ)) → can_be_id client ≡ true
    → is_of (λ u. is_named u users) clients user ≡ true → is_name name ≡ true
    → is_one_of names name ≡ true → decides_in front client user name must cover ≡ false

-- where a row concerns none of the names
pub none_concerned : (front : Bool) (both : BothFresh) (users : Literals) (clients : Clients)
    (names : Names) (must cover : List AclRow) → AreReady front both users clients must cover
    → NoneConcerned front must (stand_in both.plain clients) (are_begun names)
    → NoneFor front users clients names must cover
none_concerned front both users clients names must cover ready none client name user id of valid
    kind =
    let begun = one_begun names name kind in grind (arith, alike_all, begun)

-- what holds with either ids holds with those that a question has
pub of_either : (P : Fresh → Type 0) (f a b : Fresh) → (f ≡ a) ⊎ (f ≡ b) → P a → P b → P f
of_either P f a b (inl e) pa pb = subst P (sym e) pa
of_either P f a b (inr e) pa pb = subst P (sym e) pb

module _ {front : Bool} {both : BothFresh} {users : Literals} {clients : Clients} {names : Names}
    {must cover : List AclRow} {q : Question} (are : AreReady front both users clients must cover)
    (asks : Asks front both (stand_in both.plain clients) names must cover q) where
  ready : IsReady q.fresh users clients must cover
  ready = of_either (λ f. IsReady f users clients must cover) q.fresh both.plain both.dollar
      asks.fresh are.plain are.dollar

  -- whether it is one of the names, and what is decided of rows, is what the question hits
  decides_is : (client name : List ℕ) (user : Option (List ℕ))
      → is_of (λ u. is_named u users) clients user ≡ true → is_name name ≡ true
      → begins_with_dollar name ≡ are_begun names
      → (is_right names name && decides_in front client user name must cover)
      ≡ hits (marks_of client (level_of user)) (levels name) q.must.items q.cover.items
  decides_is client name user of valid begun =
      let listed = are.plain in
      sym (asks.decides client name user
      (alike_all both.plain users clients must user listed.unlisted listed.must_listed of)
      (alike_all both.plain users clients cover user listed.unlisted listed.cover_listed of) begun)
      ∙ level_hits client user (levels name) (name_is name valid).can q.must.items q.cover.items

  missed : ((client : List ℕ) (user : Option (List ℕ)) → can_be_id client ≡ true
      → is_of (λ u. is_named u users) clients user ≡ true → Misses q client (level_of user))
      → NoneFor front users clients names must cover
  missed misses client name user id of valid kind =
      let parts = and_parts (has_front names name) _ kind in
      let is = name_is name valid in
      ap (λ b. b && decides_in front client user name must cover) (sym parts.1)
      ∙ decides_is client name user of valid (front_begun names name parts.0)
      ∙ misses client user id of (levels name)
      (suits_front q.names name is.some ∙ ap (λ n. has_front n name) asks.kind ∙ parts.0) is.few

  hit : (user : Option (List ℕ)) (found : Found)
      → is_of (λ u. is_named u users) clients user ≡ true → HitsUser q user found
      → ((p : List ℕ → Bool) → fresh_pass p q.fresh ≡ true
      → remainders_fit p q.must.items ≡ true → name_passes p clients ≡ true
      → mark_passes p user ≡ true)
      → IsFoundBy front names both (λ u. is_named u users) clients must cover found
  hit user found of h user_known =
      let front_is = ap (λ n. has_front n found.name) (sym asks.kind) ∙ h.hits_name.kind in
      let parts = and_parts (is_right names found.name) _
      (decides_is found.client.now found.name user of h.hits_name.valid
      (front_begun names found.name front_is) ∙ h.hits_name.hit) in
      record {
        client_fits = h.client_fits;
        user_fits = ap (is_of (λ u. is_named u users) clients) h.user_is ∙ of;
        valid = h.hits_name.valid;
        kind = and_from _ _ front_is parts.0;
        decided = ap (λ u. decides_in front found.client.now u found.name must cover) h.user_is
            ∙ parts.1;
        known = λ p plain begun fit right name.
            let all = of_either (λ f. fresh_pass p f ≡ true) q.fresh both.plain both.dollar
            asks.fresh plain begun in
            let left = asks.fit p fit right in
            let known = user_known p all left name in
            let level = level_known p user known in
            let client = h.client_known p all left level in
            record {
              client = client;
              user = ap (mark_passes p) h.user_is ∙ known;
              name = h.hits_name.known p all left client level;
            };
      }

  -- ---- one user name, or none
  fixed_misses : (user : Option (List ℕ))
      → mark_passes (is_literal q.fresh) (level_of user) ≡ true → MissesUser q user
      → (client : List ℕ) → can_be_id client ≡ true
      → Misses q client (level_of user)
  fixed_misses user fit misses client id =
      fixed_none q.can_ask (level_of user) fit client id misses

  pub anonymous_none : clients ≡ Anonymous → MissesUser q None
      → NoneFor front users clients names must cover
  anonymous_none e misses = missed (λ client user id of. at user client id
      (sym (ap (λ k. is_of (λ u. is_named u users) k user) e) ∙ of))
    where
      at : (user : Option (List ℕ)) (client : List ℕ) → can_be_id client ≡ true
          → is_of (λ u. is_named u users) Anonymous user ≡ true → Misses q client (level_of user)
      at None client id of = fixed_misses None refl misses client id
      at (Some u) client id of = absurd (let n : false ≡ true = of in cc)

  pub anonymous_hit : clients ≡ Anonymous → (found : Found) → HitsUser q None found
      → IsFoundBy front names both (λ u. is_named u users) clients must cover found
  anonymous_hit e found h =
      hit None found (ap (λ k. is_of (λ u. is_named u users) k None) e) h
      (λ p fresh fit name. refl)

  pub named_none : (name : Bor (List ℕ)) → clients ≡ Named name → MissesUser q (Some name.now)
      → NoneFor front users clients names must cover
  named_none name e misses = missed (λ client user id of. at user client id
      (sym (ap (λ k. is_of (λ u. is_named u users) k user) e) ∙ of))
    where
      fit : mark_passes (is_literal q.fresh) (level_of (Some name.now)) ≡ true
      fit = sym (ap (clients_fit q.fresh) e) ∙ ready.user_fits

      at : (user : Option (List ℕ)) (client : List ℕ) → can_be_id client ≡ true
          → is_of (λ u. is_named u users) (Named name) user ≡ true
          → Misses q client (level_of user)
      at None client id of = absurd (let n : false ≡ true = of in cc)
      at (Some u) client id of =
          subst (λ t. Misses q client (level_of (Some t)))
          (sym (text_is u name.now (and_parts _ _ of).0))
          (fixed_misses (Some name.now) fit misses client id)

  pub named_hit : (name : Bor (List ℕ)) → clients ≡ Named name → can_be_id name.now ≡ true
      → (found : Found) → HitsUser q (Some name.now) found
      → IsFoundBy front names both (λ u. is_named u users) clients must cover found
  named_hit name e id found h =
      hit (Some name.now) found (ap (λ k. is_of (λ u. is_named u users) k (Some name.now)) e
      ∙ and_from _ _ (text_itself name.now) id) h
      (λ p fresh fit known. sym (ap (name_passes p) e) ∙ known)

  -- ---- all user names that aren't listed
  pub others_missed : clients ≡ Others → MissesOthers q users
      → NoneFor front users clients names must cover
  others_missed e misses = missed (λ client user id of. at user client id
      (sym (ap (λ k. is_of (λ u. is_named u users) k user) e) ∙ of))
    where
      at : (user : Option (List ℕ)) (client : List ℕ) → can_be_id client ≡ true
          → is_of (λ u. is_named u users) Others user ≡ true → Misses q client (level_of user)
      at None client id of = absurd (let n : false ≡ true = of in cc)
      at (Some u) client id of =
          others_none q.fresh q.names q.must.items q.cover.items q.can_ask users
          ready.unlisted client u of id misses

  pub others_hit : clients ≡ Others → (found : Found) → HitsOther q users found
      → IsFoundBy front names both (λ u. is_named u users) clients must cover found
  others_hit e found h =
      hit (Some h.user) found (ap (λ k. is_of (λ u. is_named u users) k (Some h.user)) e
      ∙ and_from _ _ h.user_fits (ap not h.unlisted)) h.hits_user
      (λ p fresh fit name. h.user_known p fresh fit)
