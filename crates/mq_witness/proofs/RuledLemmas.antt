-- What is asked of names of one kind, and of topics by the rules of the lists.
use Rattle.std.proofs.Common.{◌≡◌, ◌∙◌, ℕ, Bool, true, false, List, Option, Some, None, ap, arith, inl, inr, refl}
use Rattle.std.proofs.Common.{Err, IfOk, IfSome, Ok, Result, string_bytes, subst, sym}
use Rattle.mq_topic.specs.Texts.{is_name}
use Rattle.mq_acl.specs.Access.{begins_with_dollar}
use Rattle.mq_acl.specs.Rows.{AclRow}
use Rattle.mq_acl.specs.declared.rules.Rules.TheVariants.{Own, Mosquitto}
use Rattle.mq_shapes.specs.Swaps.{swap_levels}
use Rattle.mq_shapes.specs.Swaps as leveled
use Rattle.mq_shapes.specs.declared.clients.Clients.{Clients}
use Rattle.mq_witness.specs.Asked.{AskedRows, FindsNoneIn, IsShownIn, Knows, user_view}
use Rattle.mq_witness.specs.Leveled.{IsHit, IsHitBy, LevelsKnown, LevelsStand, NamesFindNone}
use Rattle.mq_witness.specs.Names.{are_begun, has_states, is_one_of, names_begun, names_of, refused_of}
use Rattle.mq_witness.specs.Ruled.{AreKnownBy, FindsNoneBy, IsShownBy, KnowsBy, ShowsBy, StandBy}
use Rattle.mq_witness.specs.Ruled.{StandsBy, decides_by}
use Rattle.mq_witness.specs.declared.names.Names.{Names}
use Rattle.mq_witness.specs.declared.names.Names.TheVariants.{States}
use Rattle.mq_witness.specs.declared.topics.Topics.{Topics}
use Rattle.mq_witness.specs.declared.witness.Witness.{Witness}
use Rattle.mq_witness.proofs.FrontLemmas.{begun_is, begun_one, names_taken, one_begun, own_taken}
use Rattle.mq_witness.proofs.FrontLemmas.{states_taken, taken_is}

-- ---- what is asked of names of one kind is asked of topics
-- where none of the names is found, and no state of a bridge where they are among the topics, no topic is
pub found_none : (asked : AskedRows) (clients : Clients) (dollar : Bool) (topics : Topics)
    (names : Names) (must cover : List AclRow) → names ≡ names_of dollar topics
    → asked.rules ≡ Mosquitto → NamesFindNone names asked clients must cover
    → (has_states dollar topics ≡ true → NamesFindNone States asked clients must cover)
    → FindsNoneBy dollar topics asked clients must cover
found_none asked clients dollar topics names must cover are is none states client name user of
    valid kind taken =
    ap (λ r. decides_by r client user name must cover) is
    ∙ elim (taken_is dollar topics name kind
    (sym (ap (λ r. refused_of r topics name) is) ∙ taken)) [
      | inl one ↦ none client name user of.client_fits of.user_fits valid
          (ap (λ n. is_one_of n name) are ∙ one)
      | inr state ↦ states state.0 client name user of.client_fits of.user_fits valid state.1
    ]

module _ (asked : AskedRows) (clients : Clients) (topics : Topics) (must cover : List AclRow)
    (is : asked.rules ≡ Mosquitto) where
  shown_by : (client : List ℕ) (user : Option (List ℕ)) (name : List ℕ)
      → refused_of asked.rules topics name ≡ false
      → IsHitBy asked clients must cover client user name
      → IsShownBy topics asked clients must cover client user name
  shown_by client user name taken h = record {
    is_asked = record {
      client_fits = h.client_fits;
      user_fits = h.user_fits;
    };
    valid = h.valid;
    taken = taken;
    decided = ap (λ r. decides_by r client user name must cover) is ∙ h.hit;
  }

  pub witness_shown : (w : Witness) → refused_of asked.rules topics w.name ≡ false
      → IsHit asked clients must cover w → ShowsBy topics asked clients must cover w
  witness_shown w taken h = shown_by (string_bytes w.client) (user_view w.user) w.name taken h

  pub witness_stands : (w : Witness) → LevelsStand asked clients must cover w
      → StandsBy topics asked clients must cover w
  witness_stands w h = subst (λ r. StandBy r topics asked clients must cover w) (sym is)
      (λ level other stands id user valid taken. shown_by
      (swap_levels level other (string_bytes w.client))
      (leveled.swap_user level other (user_view w.user)) (swap_levels level other w.name) taken
      (h level other stands id user valid))

pub witness_known : (asked : AskedRows) → asked.rules ≡ Mosquitto → (w : Witness)
    → LevelsKnown asked w → KnowsBy asked w
witness_known asked is w h =
    subst (λ r. AreKnownBy r asked (string_bytes w.client) (user_view w.user) w.name) (sym is) h

-- ---- the names that were asked about
-- what is one of the names, or the state of a bridge, is one of the topics
pub names_are : (asked : AskedRows) (dollar : Bool) (topics : Topics) (names : Names)
    (name : List ℕ) → names ≡ names_of dollar topics → asked.rules ≡ Mosquitto
    → is_one_of names name ≡ true
    → (begins_with_dollar name ≡ dollar) × (refused_of asked.rules topics name ≡ false)
names_are asked dollar topics names name are is h =
    let known = names_taken dollar topics name (ap (λ n. is_one_of n name) (sym are) ∙ h) in
    (known.0, ap (λ r. refused_of r topics name) is ∙ known.1)

pub states_are : (asked : AskedRows) (dollar : Bool) (topics : Topics) (name : List ℕ)
    → asked.rules ≡ Mosquitto → has_states dollar topics ≡ true → is_one_of States name ≡ true
    → (begins_with_dollar name ≡ dollar) × (refused_of asked.rules topics name ≡ false)
states_are asked dollar topics name is has h =
    let known = states_taken dollar topics name has h in
    (known.0, ap (λ r. refused_of r topics name) is ∙ known.1)

-- ---- by our own rules
pub own_none : (asked : AskedRows) (clients : Clients) (dollar : Bool) (topics : Topics)
    (names : Names) (must cover : List AclRow) → names ≡ names_begun dollar → asked.rules ≡ Own
    → FindsNoneIn false names asked clients must cover
    → FindsNoneBy dollar topics asked clients must cover
own_none asked clients dollar topics names must cover are is none client name user of valid kind
    taken =
    ap (λ r. decides_by r client user name must cover) is
    ∙ none client name user of.client_fits of.user_fits valid
    (ap (λ n. is_one_of n name) are ∙ begun_one dollar name kind)

pub own_shown : (asked : AskedRows) (topics : Topics) {clients : Clients} {must cover : List AclRow}
    {client : List ℕ} {user : Option (List ℕ)} {name : List ℕ} → asked.rules ≡ Own
    → IsShownIn false asked clients must cover client user name
    → IsShownBy topics asked clients must cover client user name
own_shown asked topics {name = name} is h =
    let taken = ap (λ r. refused_of r topics name) is ∙ own_taken topics name in
    grind (arith, taken)

pub own_kind : (dollar : Bool) (names : Names) (name : List ℕ) → names ≡ names_begun dollar
    → is_one_of names name ≡ true → begins_with_dollar name ≡ dollar
own_kind dollar names name are h = one_begun names name h ∙ ap are_begun are ∙ begun_is dollar

-- ---- what is answered
pub all_found : {A E : Type 0} (r : Result (Option A) E) (P Q R S : A → Type 0)
    → ((w : A) → P w → Q w → R w → S w) → IfOk r (λ found. IfSome found P)
    → IfOk r (λ found. IfSome found Q) → IfOk r (λ found. IfSome found R)
    → IfOk r (λ found. IfSome found S)
all_found (Ok (Some w)) P Q R S f p q r = f w p q r
all_found (Ok None) P Q R S f p q r = tt
all_found (Err e) P Q R S f p q r = tt

pub both_found : {A E : Type 0} (r : Result (Option A) E) (P Q R : A → Type 0)
    → ((w : A) → P w → Q w → R w) → IfOk r (λ found. IfSome found P)
    → IfOk r (λ found. IfSome found Q) → IfOk r (λ found. IfSome found R)
both_found (Ok (Some w)) P Q R f p q = f w p q
both_found (Ok None) P Q R f p q = tt
both_found (Err e) P Q R f p q = tt

-- by our own rules what is said of rows is said of topics
pub own_stands : (asked : AskedRows) (topics : Topics) {clients : Clients}
    {must cover : List AclRow} → asked.rules ≡ Own → (w : Witness)
    → StandBy Own topics asked clients must cover w → StandsBy topics asked clients must cover w
own_stands asked topics {clients} {must} {cover} is w h =
    subst (λ r. StandBy r topics asked clients must cover w) (sym is) h

pub own_known : (asked : AskedRows) → asked.rules ≡ Own → (w : Witness) → Knows asked w
    → KnowsBy asked w
own_known asked is w h =
    subst (λ r. AreKnownBy r asked (string_bytes w.client) (user_view w.user) w.name) (sym is) h
