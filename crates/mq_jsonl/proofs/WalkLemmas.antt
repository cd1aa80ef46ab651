-- Fields that are read in one walk, in the order of their names, are those of their table.
use Rattle.std.proofs.Common.{◌≡◌, ℕ, List, [], ◌∷◌, Bool, true, false, ◌||◌, cond, Option, Some}
use Rattle.std.proofs.Common.{None, Ordering, Less, Equal, Greater, is_eq, bytes_eq, refl, sym}
use Rattle.std.proofs.Common.{ap, ◌∙◌, subst}
use Rattle.std.proofs.lemmas.Map.Text.{is_eq-slice_cmp}
use Rattle.std.specs.Prelude.{Result, Ok, Err, if◌then◌else◌, is_none, unwrap_or, option_and_then}
use Rattle.std.specs.Ordering.{is_lt}
use Rattle.mq_topic.proofs.ByteLemmas.{text_is}
use Rattle.serde_json.specs.Data.{Data, object, Members, no_members, member}
use Rattle.serde_json.specs.Find.{get, get_member}
use Rattle.mq_world.specs.World.{Request}
use Rattle.mq_jsonl.specs.Objects.{names_of}
use Rattle.mq_jsonl.specs.Fields.{◌>>=◌, or_fault, Kind, ValueOf, of_kind, Presence}
use Rattle.mq_jsonl.specs.Fields.{Given, given_as, Field, given, Maker, made, names_in}
use Rattle.mq_jsonl.specs.Fields.{is_among, all_among, has_only, word, from_fields}
use Rattle.mq_jsonl.specs.Ahead.{Above, Ascends, ahead, past, end, outcome, members_left, finished}
use Rattle.mq_jsonl.specs.Ahead.{Begins, Reads}
use Rattle.mq_jsonl.specs.declared.fault.LineFault.{LineFault}
use Rattle.mq_jsonl.specs.declared.fault.LineFault.TheVariants.{BadField}
use Rattle.mq_jsonl.specs.declared.fields.Fields.{Fields}
use Rattle.mq_jsonl.proofs.AheadLemmas.{text_cmp, turned, apart, apart_from, above_later, unfound}
use Rattle.mq_jsonl.proofs.AheadLemmas.{not_among, unneeded, is_ascending, ascends}

-- ## What follows a field, unless it has a fault

abbrev pub Reading : Type 0
Reading = Result Request LineFault

abbrev next : {A : Type 0} → Option A → (A → Reading) → Reading
next o rest = or_fault BadField o >>= rest

same_rest : {A : Type 0} (o : Option A) (f g : A → Reading) → ((x : A) → f x ≡ g x)
    → next o f ≡ next o g
same_rest None f g same = refl
same_rest (Some x) f g same = same x

faulty_rest : {A : Type 0} (o : Option A) (f : A → Reading) → ((x : A) → f x ≡ Err BadField)
    → next o f ≡ Err BadField
faulty_rest None f faulty = refl
faulty_rest (Some x) f faulty = faulty x

same_made : {A : Type 0} (o : Option A) (f g : A → Option Request) → ((x : A) → f x ≡ g x)
    → option_and_then f o ≡ option_and_then g o
same_made None f g same = refl
same_made (Some x) f g same = same x

-- ## Fields in the order of their names

-- an object of these fields and of nothing else makes the command
abbrev by_name : (fields : List Field) → Maker fields → Data → Reading
by_name fields make d =
    if has_only (names_in fields) d then or_fault BadField (made fields make d) else Err BadField

-- each field in turn is read from the next member, and then none is left
abbrev walk : (fields : List Field) → Maker fields → Members → Reading
walk [] request ms = end ms >>= λ _. Ok request
walk (f ∷ fields) make ms = next (given f (ahead ms)) (λ x. walk fields (make x) (past f.name ms))

-- a member below all names is left
stuck : (fields : List Field) (make : Maker fields) (k : List ℕ) (d : Data) (ms : Members)
    → Above k (names_in fields)
    → walk fields make (member k d ms) ≡ Err BadField
stuck [] request k d ms above = refl
stuck (f ∷ fields) make k d ms above = faulty_rest (given f (ahead (member k d ms))) _
    (λ x. rw (apart_from k f.name above.0) (stuck fields (make x) k d ms above.1))

-- a member below all names counts for none of them
made_beyond : (fields : List Field) (make : Maker fields) (k : List ℕ) (d : Data) (ms : Members)
    → Above k (names_in fields)
    → made fields make (object (member k d ms)) ≡ made fields make (object ms)
made_beyond [] request k d ms above = refl
made_beyond (f ∷ fields) make k d ms above =
    let here : get_member f.name (member k d ms) ≡ get_member f.name ms =
    rw (turned k f.name Less above.0) in
    rw here
    (same_made (given f (object ms)) _ _ (λ x. made_beyond fields (make x) k d ms above.1))

-- a field of those that are read by name comes first
first_field : {A : Type 0} (only : Bool) (o : Option A) (f : A → Option Request)
    → (if only then or_fault BadField (option_and_then f o) else Err BadField)
    ≡ next o (λ x. if only then or_fault BadField (f x) else Err BadField)
first_field true None f = refl
first_field true (Some x) f = refl
first_field false None f = refl
first_field false (Some x) f = refl

-- walked by names that ascend, members that ascend give what they give by name
walk_by_name : (fields : List Field) (make : Maker fields) (ms : Members)
    → Ascends (names_in fields) → Ascends (names_of ms)
    → by_name fields make (object ms) ≡ walk fields make ms
walk_by_name [] request no_members up sorted = refl
walk_by_name [] request (member k d ms) up sorted = refl
walk_by_name (f ∷ fields) make no_members up sorted =
    let given_none = given f (object no_members) in
    first_field true given_none _
    ∙ same_rest given_none _ _ (λ x. walk_by_name fields (make x) no_members up.1 tt)
walk_by_name (f ∷ fields) make (member k d ms) up sorted =
    first_field (all_among (f.name ∷ names) (member k d ms)) (given f (object (member k d ms))) _
    ∙ by_order (text_cmp f.name k) refl (λ x. walk_by_name fields (make x) ms up.1 sorted.1)
    (λ x. walk_by_name fields (make x) (member k d ms) up.1 sorted)
  where
    names : List (List ℕ)
    names = names_in fields

    Same : Members → Type 0
    Same rest = (x : Given f.presence)
        → by_name fields (make x) (object rest) ≡ walk fields (make x) rest

    by_order : (o : Ordering) → text_cmp f.name k ≡ o → Same ms → Same (member k d ms)
        → next (given f (object (member k d ms)))
        (λ x. if all_among (f.name ∷ names) (member k d ms) then
        or_fault BadField (made fields (make x) (object (member k d ms))) else Err BadField)
        ≡ next (given f (ahead (member k d ms)))
        (λ x. walk fields (make x) (past f.name (member k d ms)))
    by_order Less is here later =
        let above : Above f.name (k ∷ names_of ms) =
        (is, above_later f.name k (names_of ms) is sorted.0) in
        let absent : get_member f.name (member k d ms) ≡ None =
        unfound f.name (member k d ms) above in
        let alone : get f.name (ahead (member k d ms)) ≡ None = rw is in
        let only : all_among (f.name ∷ names) (member k d ms) ≡ all_among names (member k d ms) =
        unneeded f.name names (member k d ms) above in
        rw (only, absent, alone, apart f.name k is)
        (same_rest (given_as f.presence (of_kind f.kind) None) _ _ later)
    by_order Equal is here later =
        let same : bytes_eq f.name k ≡ true = sym (is_eq-slice_cmp f.name k) ∙ ap is_eq is in
        let above : Above f.name (names_of ms) =
        subst (λ m. Above m (names_of ms)) (sym (text_is f.name k same)) sorted.0 in
        let beyond : Above k names = subst (λ m. Above m names) (text_is f.name k same) up.0 in
        rw (is, same)
        (same_rest (given_as f.presence (of_kind f.kind) (Some d)) _ _
        (λ x. rw (unneeded f.name names ms above, made_beyond fields (make x) k d ms beyond)
        (here x)))
    by_order Greater is here later =
        let below : text_cmp k f.name ≡ Less = turned f.name k Greater is in
        let above : Above k (f.name ∷ names) = (below, above_later k f.name names below up.0) in
        let unknown : all_among (f.name ∷ names) (member k d ms) ≡ false =
        rw (not_among k (f.name ∷ names) above) in
        rw unknown (faulty_rest (given f (object (member k d ms))) _ (λ x. refl)
        ∙ sym (stuck (f ∷ fields) make k d ms above))

-- ## Fields in another order

-- a field among those that ascend
abbrev pub place : Field → List Field → List Field
place f [] = f ∷ []
place f (g ∷ gs) = cond (is_lt (text_cmp f.name g.name)) (f ∷ g ∷ gs) (g ∷ place f gs)

abbrev pub place_maker : (f : Field) (gs : List Field) → (Given f.presence → Maker gs)
    → Maker (place f gs)
place_maker f [] make = make
place_maker f (g ∷ gs) make =
    elim (is_lt (text_cmp f.name g.name)) as (λ b. Maker (cond b (f ∷ g ∷ gs) (g ∷ place f gs))) [
      | true ↦ make
      | false ↦ λ y. place_maker f gs (λ x. make x y)
    ]

abbrev pub sorted : List Field → List Field
sorted [] = []
sorted (f ∷ fields) = place f (sorted fields)

abbrev pub sorted_maker : (fields : List Field) → Maker fields → Maker (sorted fields)
sorted_maker [] request = request
sorted_maker (f ∷ fields) make = place_maker f (sorted fields) (λ x. sorted_maker fields (make x))

swapped : {A B : Type 0} (a : Option A) (b : Option B) (f : A → B → Option Request)
    → option_and_then (λ y. option_and_then (λ x. f x y) a) b
    ≡ option_and_then (λ x. option_and_then (λ y. f x y) b) a
swapped None None f = refl
swapped None (Some y) f = refl
swapped (Some x) None f = refl
swapped (Some x) (Some y) f = refl

made_place : (f : Field) (gs : List Field) (make : Given f.presence → Maker gs) (d : Data)
    → made (place f gs) (place_maker f gs make) d
    ≡ option_and_then (λ x. made gs (make x) d) (given f d)
made_place f [] make d = refl
made_place f (g ∷ gs) make d =
    by_test (is_lt (text_cmp f.name g.name)) (λ y. made_place f gs (λ x. make x y) d)
  where
    by_test : (b : Bool)
        → ((y : Given g.presence) → made (place f gs) (place_maker f gs (λ x. make x y)) d
        ≡ option_and_then (λ x. made gs (make x y) d) (given f d))
        → made (cond b (f ∷ g ∷ gs) (g ∷ place f gs))
        (elim b as (λ b. Maker (cond b (f ∷ g ∷ gs) (g ∷ place f gs))) [
          | true ↦ make
          | false ↦ λ y. place_maker f gs (λ x. make x y)
        ]) d
        ≡ option_and_then (λ x. made (g ∷ gs) (make x) d) (given f d)
    by_test true later = refl
    by_test false later = same_made (given g d) _ _ later
        ∙ swapped (given f d) (given g d) (λ x y. made gs (make x y) d)

made_sorted : (fields : List Field) (make : Maker fields) (d : Data)
    → made (sorted fields) (sorted_maker fields make) d ≡ made fields make d
made_sorted [] request d = refl
made_sorted (f ∷ fields) make d = made_place f (sorted fields) (λ x. sorted_maker fields (make x)) d
    ∙ same_made (given f d) _ _ (λ x. made_sorted fields (make x) d)

either_first : (a b c : Bool) → a || (b || c) ≡ b || (a || c)
either_first true true c = refl
either_first true false c = refl
either_first false true c = refl
either_first false false c = refl

among_place : (f : Field) (gs : List Field) (k : List ℕ)
    → is_among (names_in (place f gs)) k ≡ is_among (names_in (f ∷ gs)) k
among_place f [] k = refl
among_place f (g ∷ gs) k = by_test (is_lt (text_cmp f.name g.name)) (among_place f gs k)
  where
    by_test : (b : Bool) → is_among (names_in (place f gs)) k ≡ is_among (names_in (f ∷ gs)) k
        → is_among (names_in (cond b (f ∷ g ∷ gs) (g ∷ place f gs))) k
        ≡ is_among (names_in (f ∷ g ∷ gs)) k
    by_test true later = refl
    by_test false later = ap (λ t. bytes_eq g.name k || t) later
        ∙ either_first (bytes_eq g.name k) (bytes_eq f.name k) (is_among (names_in gs) k)

among_sorted : (fields : List Field) (k : List ℕ)
    → is_among (names_in (sorted fields)) k ≡ is_among (names_in fields) k
among_sorted [] k = refl
among_sorted (f ∷ fields) k = among_place f (sorted fields) k
    ∙ ap (λ t. bytes_eq f.name k || t) (among_sorted fields k)

all_among_sorted : (fields : List Field) (ms : Members)
    → all_among (names_in (sorted fields)) ms ≡ all_among (names_in fields) ms
all_among_sorted fields no_members = refl
all_among_sorted fields (member k d ms) = rw (among_sorted fields k, all_among_sorted fields ms)

-- ## A walk as the code makes it

-- what a walk that is begun goes on to read
pub walked : (fields : List Field) → Maker fields → Fields → Reading
walked fields make state =
    if state.is_faulty then Err BadField else walk fields make (members_left state)

-- a command's fields are read in one walk by their names, wherever its table has them
pub begins : {ms : Members} {state : Fields} → Begins ms state
    → (fields : List Field) (make : Maker fields)
    → is_ascending (names_in (sorted (word ∷ fields))) ≡ true
    → from_fields fields make (object ms)
    ≡ walked (sorted (word ∷ fields)) (sorted_maker (word ∷ fields) (λ ignored. make)) state
unfolding from_fields walked
begins {ms} {state} at fields make up =
    let all = word ∷ fields in
    let from_all : Maker all = λ ignored. make in
    rw (at.sound, at.all, ← all_among_sorted all ms, ← made_sorted all from_all (object ms))
    (walk_by_name (sorted all) (sorted_maker all from_all) ms (ascends _ up) at.ordered)

gathered : {A : Type 0} (faulty : Bool) (o : Option A) (a : A) (rest : A → Reading)
    → (if faulty then Err BadField else next o rest)
    ≡ (if faulty || is_none o then Err BadField else rest (unwrap_or o a))
gathered true o a rest = refl
gathered false None a rest = refl
gathered false (Some x) a rest = refl

-- one more field is read
pub step : {name : List ℕ} {kind : Kind} {presence : Presence (ValueOf kind)} {a x : Given presence}
    {old new : Fields} → Reads name kind presence a old new x
    → (fields : List Field) (make : Given presence → Maker fields)
    → walked (record { name = name; kind = kind; presence = presence } ∷ fields) make old
    ≡ walked fields (make x) new
unfolding walked
step {name} {kind} {presence} {a} {x} {old} {new} reads fields make =
    rw (reads.faulty, reads.left, reads.value)
    (gathered old.is_faulty
    (given_as presence (of_kind kind) (get name (ahead (members_left old)))) a
    (λ x. walk fields (make x) (past name (members_left old))))

-- nothing is left to read
pub ends : (request : Request) (state : Fields) → walked [] request state ≡ finished state request
unfolding walked
ends request state = by_test state.is_faulty
  where
    by_test : (b : Bool)
        → (if b then Err BadField else (end (members_left state) >>= λ _. Ok request))
        ≡ (outcome b (members_left state) >>= λ _. Ok request)
    by_test true = refl
    by_test false = refl
