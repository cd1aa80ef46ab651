-- Names by how they begin.
use Rattle.std.proofs.Common.{◌≡◌, ◌⊎◌, ℕ, Bool, true, false, not, ◌&&◌, List, [], ◌∷◌, length}
use Rattle.std.proofs.Common.{ap, arith, inl, inr, refl, sym, ◌∙◌, ◌<◌}
use Rattle.std.proofs.lemmas.Bool.{and_from, and_parts, cases_Bool, not-true, or_right}
use Rattle.std.proofs.Math.Bool.{and-true}
use Rattle.mq_topic.specs.Levels.{levels}
use Rattle.mq_topic.specs.Matching.{level_at}
use Rattle.mq_topic.proofs.Walk.{levels-nonempty}
use Rattle.mq_acl.specs.Access.{begins_with_dollar}
use Rattle.mq_acl.specs.Refused.{begins_own, begins_shared, is_state, refuses}
use Rattle.mq_acl.specs.Refused.{state_filter}
use Rattle.mq_acl.specs.declared.access.Direction.TheVariants.{Reading, Writing}
use Rattle.mq_acl.specs.declared.rules.Rules.{Rules}
use Rattle.mq_acl.specs.declared.rules.Rules.TheVariants.{Own, Mosquitto}
use Rattle.mq_acl.proofs.RefusedLemmas.{first_own, first_shared, free_taken, plain_taken, reading_is}
use Rattle.mq_acl.proofs.RefusedLemmas.{state_taken, writing_parts}
use Rattle.mq_cover.specs.Names.{fits_start, start_of, suits}
use Rattle.mq_cover.specs.Remainders.{fits}
use Rattle.mq_cover.specs.declared.start.Start.TheVariants as starts
use Rattle.mq_cover.proofs.NameLemmas.{suits_inside}
use Rattle.mq_witness.specs.Names.{are_begun, are_states, has_front, has_states, is_one_of}
use Rattle.mq_witness.specs.Names.{names_begun, names_fit, names_of, names_readable, refused_of}
use Rattle.mq_witness.specs.Names.{start_at}
use Rattle.mq_witness.specs.declared.names.Names.{Names}
use Rattle.mq_witness.specs.declared.names.Names.TheVariants.{Plain, Dollar, Readable, Writable}
use Rattle.mq_witness.specs.declared.names.Names.TheVariants.{States}
use Rattle.mq_witness.specs.declared.topics.Topics.{Topics}
use Rattle.mq_witness.specs.declared.topics.Topics.TheVariants.{All, Open}
use Rattle.mq_witness.proofs.NameLemmas.{dollar_suits, plain_suits}

-- ---- texts
-- a text that has the front of names begins with `$` just where they do
pub front_begun : (names : Names) (text : List ℕ) → has_front names text ≡ true
    → begins_with_dollar text ≡ are_begun names
front_begun Plain text h = not-true (begins_with_dollar text) h
front_begun Dollar text h = h
front_begun Readable text h = (and_parts (begins_with_dollar text) _ h).0
front_begun Writable text h = (and_parts (begins_with_dollar text) _ h).0
front_begun States text h = h

-- what nobody is refused to write has each front of names that begin with `$`
pub writable_front : (names : Names) (text : List ℕ) → are_begun names ≡ true
    → fits_start starts.Writable text ≡ true → has_front names text ≡ true
writable_front Plain text e h = absurd (let n : false ≡ true = e in cc)
writable_front Dollar text e h = (and_parts (begins_with_dollar text) _ h).0
writable_front Readable text e h =
    let parts = and_parts (begins_with_dollar text) _ h in
    and_from _ _ parts.0 (and_parts _ _ parts.1).0
writable_front Writable text e h = h
writable_front States text e h = (and_parts (begins_with_dollar text) _ h).0

pub plain_front : (names : Names) (text : List ℕ) → are_begun names ≡ false
    → begins_with_dollar text ≡ false → has_front names text ≡ true
plain_front Plain text e h = ap not h
plain_front Dollar text e h = absurd (let n : true ≡ false = e in cc)
plain_front Readable text e h = absurd (let n : true ≡ false = e in cc)
plain_front Writable text e h = absurd (let n : true ≡ false = e in cc)
plain_front States text e h = absurd (let n : true ≡ false = e in cc)

-- ---- levels
-- levels that suit the front of names suit that of all that begin with `$`, or of the others
pub suits_begun : (names : Names) (ls : List (List ℕ)) → suits (start_at names) ls ≡ true
    → suits (start_of (are_begun names)) ls ≡ true
suits_begun Plain ls s = s
suits_begun Dollar ls s = s
suits_begun States ls s = s
suits_begun Readable [] s = s
suits_begun Readable (l ∷ ls) s =
    let parts = and_parts (fits_start starts.Readable l) _ s in
    and_from _ _ (and_parts (begins_with_dollar l) _ parts.0).0 parts.1
suits_begun Writable [] s = s
suits_begun Writable (l ∷ ls) s =
    let parts = and_parts (fits_start starts.Writable l) _ s in
    and_from _ _ (and_parts (begins_with_dollar l) _ parts.0).0 parts.1

module _ (name : List ℕ) where
  first_begins : (l : List ℕ) (ls : List (List ℕ))
      → suits starts.Dollar (l ∷ ls) ≡ begins_with_dollar name
      → begins_with_dollar l ≡ begins_with_dollar name
  first_begins l ls d =
      sym (ap (λ b. begins_with_dollar l && b) (suits_inside ls) ∙ and-true (begins_with_dollar l))
      ∙ d

  readable_suits : (ls : List (List ℕ)) → 0 < length ls
      → suits starts.Dollar ls ≡ begins_with_dollar name
      → begins_shared name ≡ begins_shared (level_at ls 0)
      → suits starts.Readable ls ≡ has_front Readable name
  readable_suits [] h d e = absurd (omega arith)
  readable_suits (l ∷ ls) h d e =
      (λ i. (first_begins l ls d i && not (sym e i)) && suits_inside ls i)
      ∙ and-true (has_front Readable name)

  writable_suits : (ls : List (List ℕ)) → 0 < length ls
      → suits starts.Dollar ls ≡ begins_with_dollar name
      → begins_shared name ≡ begins_shared (level_at ls 0)
      → begins_own name ≡ begins_own (level_at ls 0)
      → suits starts.Writable ls ≡ has_front Writable name
  writable_suits [] h d e f = absurd (omega arith)
  writable_suits (l ∷ ls) h d e f =
      (λ i. (first_begins l ls d i && (not (sym e i) && not (sym f i))) && suits_inside ls i)
      ∙ and-true (has_front Writable name)

-- a name's levels suit the front of names where its text has it
pub suits_front : (names : Names) (name : List ℕ) → 0 < length name
    → suits (start_at names) (levels name) ≡ has_front names name
suits_front Plain name h = plain_suits name h
suits_front Dollar name h = dollar_suits name
suits_front States name h = dollar_suits name
suits_front Readable name h = readable_suits name (levels name) (levels-nonempty name)
    (dollar_suits name) (first_shared name)
suits_front Writable name h = writable_suits name (levels name) (levels-nonempty name)
    (dollar_suits name) (first_shared name) (first_own name)

-- ---- those of some topics
pub one_begun : (names : Names) (name : List ℕ) → is_one_of names name ≡ true
    → begins_with_dollar name ≡ are_begun names
one_begun names name h = front_begun names name (and_parts (has_front names name) _ h).0

pub begun_is : (dollar : Bool) → are_begun (names_begun dollar) ≡ dollar
begun_is true = refl
begun_is false = refl

pub begun_one : (dollar : Bool) (name : List ℕ) → begins_with_dollar name ≡ dollar
    → is_one_of (names_begun dollar) name ≡ true
begun_one true name e = and_from _ _ e refl
begun_one false name e = and_from _ _ (ap not e) refl

pub own_taken : (topics : Topics) (name : List ℕ) → refused_of Own topics name ≡ false
own_taken All name = refl
own_taken (Open direction) name = refl

-- what nobody is refused is one of these names, or the state of a bridge
pub taken_is : (dollar : Bool) (topics : Topics) (name : List ℕ) → begins_with_dollar name ≡ dollar
    → refused_of Mosquitto topics name ≡ false → (is_one_of (names_of dollar topics) name ≡ true)
    ⊎ ((has_states dollar topics ≡ true) × (is_one_of States name ≡ true))
taken_is false topics name e h = inl (and_from _ _ (ap not e) refl)
taken_is true All name e h = inl (and_from _ _ e refl)
taken_is true (Open Reading) name e h =
    inl (and_from _ _ (and_from _ _ e (ap not (sym (reading_is name) ∙ h))) refl)
taken_is true (Open Writing) name e h =
    let parts = writing_parts name h in
    elim (cases_Bool (begins_own name)) [
      | inl own ↦ inr (
        refl,
        and_from _ _ e
            (not-false (is_state name) (sym (ap (λ b. b && not (is_state name)) own) ∙ parts.1)),
      )
      | inr free ↦ inl (and_from _ _ (and_from _ _ e (and_from _ _ (ap not parts.0) (ap not free)))
          refl)
    ]
  where
    not-false : (b : Bool) → not b ≡ false → b ≡ true
    not-false true k = refl
    not-false false k = absurd (let n : true ≡ false = k in cc)

-- and one of them nobody is refused
pub names_taken : (dollar : Bool) (topics : Topics) (name : List ℕ)
    → is_one_of (names_of dollar topics) name ≡ true
    → (begins_with_dollar name ≡ dollar) × (refused_of Mosquitto topics name ≡ false)
names_taken false All name h = (one_begun Plain name h, refl)
names_taken false (Open direction) name h =
    let begins = one_begun Plain name h in
    (begins, plain_taken direction name begins)
names_taken true All name h = (one_begun Dollar name h, refl)
names_taken true (Open Reading) name h =
    let front = and_parts (begins_with_dollar name) _ (and_parts (has_front Readable name) _ h).0 in
    (front.0, reading_is name ∙ not-true (begins_shared name) front.1)
names_taken true (Open Writing) name h =
    let front = and_parts (begins_with_dollar name) _ (and_parts (has_front Writable name) _ h).0 in
    let free = and_parts (not (begins_shared name)) _ front.1 in (
      front.0,
      free_taken name (not-true (begins_shared name) free.0) (not-true (begins_own name) free.1),
    )

pub states_taken : (dollar : Bool) (topics : Topics) (name : List ℕ)
    → has_states dollar topics ≡ true → is_one_of States name ≡ true
    → (begins_with_dollar name ≡ dollar) × (refused_of Mosquitto topics name ≡ false)
states_taken false topics name s h = absurd (let n : false ≡ true = s in cc)
states_taken true All name s h = absurd (let n : false ≡ true = s in cc)
states_taken true (Open Reading) name s h = absurd (let n : false ≡ true = s in cc)
states_taken true (Open Writing) name s h =
    let parts = and_parts (has_front States name) _ h in (parts.0, state_taken name parts.1)

-- ---- topics that clients may read
pub readable_is : (rules : Rules) (name : List ℕ) → begins_with_dollar name ≡ true
    → refuses rules Reading name ≡ false → is_one_of (names_readable rules) name ≡ true
readable_is Own name e h = and_from _ _ e refl
readable_is Mosquitto name e h =
    and_from _ _ (and_from _ _ e (ap not (sym (reading_is name) ∙ h))) refl

pub readable_taken : (rules : Rules) (name : List ℕ) → is_one_of (names_readable rules) name ≡ true
    → refuses rules Reading name ≡ false
readable_taken Own name h = refl
readable_taken Mosquitto name h = reading_is name ∙ not-true (begins_shared name)
    (and_parts (begins_with_dollar name) _ (and_parts (has_front Readable name) _ h).0).1

pub plain_readable : (rules : Rules) (name : List ℕ) → is_one_of Plain name ≡ true
    → refuses rules Reading name ≡ false
plain_readable Own name h = refl
plain_readable Mosquitto name h = plain_taken Reading name (one_begun Plain name h)

-- ---- the filter that names match
pub names_fit_by : (p : List ℕ → Bool) (names : Names) → fits p (levels state_filter) ≡ true
    → names_fit p names ≡ true
names_fit_by p names h = or_right (not (are_states names)) _ h
