-- What is added to a text: the lines of copies, one after the other.
use Rattle.std.proofs.Common.{◌≡◌, ℕ, ◌+◌, ◌<◌, List, [], ◌∷◌, ◌++◌, ◌==◌, false, true≢false, None}
use Rattle.std.proofs.Common.{All, get_or, take, drop, map, length, refl, subst, sym, ap, ◌∙◌}
use Rattle.std.proofs.Common.{arith, append_assoc}
use Rattle.std.proofs.lemmas.List.{append-nil, map-append, take-append-drop, take_more}
use Rattle.std.proofs.lemmas.Grind.{flat_map-append}
use Rattle.std.specs.List.{flat_map}
use Rattle.mq_world.specs.World.{Copy}
use Rattle.mq_world.specs.Views.{copy_of}
use Rattle.mq_world.specs.declared.answer.Delivery.{Delivery}
use Rattle.mq_jsonl.specs.Printed.{copy_text}
use Rattle.mq_jsonl.specs.Shared.{with_client, with_message, SameButClient, SameButMessage}
use Rattle.mq_jsonl.proofs.SharedLemmas.{text_of}

-- nothing was added
pub none_added : (old : List ℕ) → (more : List ℕ) × (old ≡ old ++ more)
none_added old = ([], sym (append-nil old))

-- more was added behind what was
pub more_added : (old line middle new : List ℕ) → middle ≡ old ++ line
    → (more : List ℕ) × (new ≡ middle ++ more) → (more : List ℕ) × (new ≡ old ++ more)
more_added old line middle new first then =
    (line ++ then.0, then.1 ∙ ap (λ l. l ++ then.0) first ∙ append_assoc old line then.0)

-- of these copies, the lines of all but the rest were added
pub record IsPrinted (k : ℕ) (all rest : List Delivery) (old new : List ℕ) : Type 0 where
  pub first : List Delivery
  pub are : all ≡ first ++ rest
  pub lines : new ≡ old ++ flat_map (copy_text k) (map copy_of first)

pub none_printed : (k : ℕ) (all : List Delivery) (old : List ℕ) → IsPrinted k all all old old
none_printed k all old = record { first = []; are = refl; lines = sym (append-nil old) }

pub more_printed : (k : ℕ) (all rest ds later : List Delivery) (old middle new : List ℕ)
    → IsPrinted k all rest old middle → rest ≡ ds ++ later
    → new ≡ middle ++ flat_map (copy_text k) (map copy_of ds) → IsPrinted k all later old new
more_printed k all rest ds later old middle new printed are lines = record {
  first = printed.first ++ ds;
  are = printed.are ∙ ap (λ l. printed.first ++ l) are
      ∙ sym (append_assoc printed.first ds later);
  lines = lines ∙ ap (λ l. l ++ flat_map (copy_text k) (map copy_of ds)) printed.lines
      ∙ append_assoc old _ _
      ∙ ap (λ l. old ++ l) (sym (flat_map-append (copy_text k) (map copy_of printed.first)
      (map copy_of ds))
      ∙ ap (flat_map (copy_text k)) (sym (map-append copy_of printed.first ds)));
}

pub all_printed : (k : ℕ) (all rest : List Delivery) (old new : List ℕ)
    → IsPrinted k all rest old new → rest ≡ []
    → new ≡ old ++ flat_map (copy_text k) (map copy_of all)
all_printed k all rest old new printed none = printed.lines
    ∙ ap (λ l. old ++ flat_map (copy_text k) (map copy_of l))
    (sym (append-nil printed.first) ∙ ap (λ l. printed.first ++ l) (sym none) ∙ sym printed.are)

-- copies that are split twice are the first ones, the next ones, and those that are left
pub split_twice : (xs ds rest es left : List Delivery) (n m : ℕ) → ds ≡ take n xs → rest ≡ drop n xs
    → es ≡ take m rest → left ≡ drop m rest → xs ≡ ds ++ es ++ left
split_twice xs ds rest es left n m one two three four =
    sym (take-append-drop n xs) ∙ ap (λ l. l ++ drop n xs) (sym one) ∙ ap (λ l. ds ++ l) (sym two)
    ∙ ap (λ l. ds ++ l) (sym (take-append-drop m rest) ∙ ap (λ l. l ++ drop m rest) (sym three)
    ∙ ap (λ l. es ++ l) (sym four))
    ∙ sym (append_assoc ds es left)

-- the line of a copy and those of more copies, added one after the other
pub run_added : (k : ℕ) (d : Delivery) (ds es : List Delivery) (text old one two new : List ℕ)
    → text ≡ copy_text k (copy_of d) → one ≡ old ++ text
    → two ≡ one ++ flat_map (copy_text k) (map copy_of ds)
    → new ≡ two ++ flat_map (copy_text k) (map copy_of es)
    → new ≡ old ++ flat_map (copy_text k) (map copy_of (d ∷ (ds ++ es)))
run_added k d ds es text old one two new is first second third =
    let lines : List Delivery → List ℕ = λ xs. flat_map (copy_text k) (map copy_of xs) in
    let both = ap (flat_map (copy_text k)) (map-append copy_of ds es)
    ∙ flat_map-append (copy_text k) (map copy_of ds) (map copy_of es) in
    third ∙ ap (λ l. l ++ lines es) (second ∙ ap (λ l. l ++ lines ds)
    (first ∙ ap (λ l. old ++ l) is))
    ∙ append_assoc (old ++ copy_text k (copy_of d)) (lines ds) (lines es)
    ∙ ap (λ l. old ++ copy_text k (copy_of d) ++ l) (sym both)
    ∙ append_assoc old (copy_text k (copy_of d)) (lines (ds ++ es))

-- of copies of which one follows, the first isn't for a group
pub not_for_group : (d : Delivery) (ds : List Delivery) → (length ds == 0) ≡ false
    → All (λ e. SameButMessage (copy_of d) (copy_of e)) ds → (copy_of d).group ≡ None
not_for_group d [] none same = absurd (true≢false none)
not_for_group d (e ∷ ds) some same = (same 0 d (omega arith)).1

-- after the lines of the copies below one, that of this one was added
line_added : (k : ℕ) (xs : List Delivery) (i : ℕ) (d : Delivery) (line old middle new : List ℕ)
    → i < length xs → d ≡ get_or xs i d → line ≡ copy_text k (copy_of d)
    → middle ≡ old ++ flat_map (copy_text k) (map copy_of (take i xs)) → new ≡ middle ++ line
    → new ≡ old ++ flat_map (copy_text k) (map copy_of (take (i + 1) xs))
line_added k xs i d line old middle new below is same first then =
    let lines : List Delivery → List ℕ = λ ds. flat_map (copy_text k) (map copy_of ds) in
    let one = take i xs in
    let both = ap lines (take_more xs i d below ∙ ap (λ e. one ++ e ∷ []) (sym is))
    ∙ ap (flat_map (copy_text k)) (map-append copy_of one (d ∷ []))
    ∙ flat_map-append (copy_text k) (map copy_of one) (copy_of d ∷ [])
    ∙ ap (λ l. lines one ++ l) (append-nil (copy_text k (copy_of d))) in
    then ∙ ap (λ l. l ++ line) first ∙ ap (λ l. old ++ lines one ++ l) same
    ∙ append_assoc old (lines one) (copy_text k (copy_of d)) ∙ ap (λ l. old ++ l) (sym both)

-- of a copy that differs from another in its client alone
pub client_added : (k : ℕ) (c : Copy) (xs : List Delivery) (i : ℕ) (d : Delivery)
    (f b text old middle new : List ℕ)
    → ((x : List ℕ) → copy_text k (with_client x c) ≡ f ++ (text_of x ++ b))
    → All (λ e. SameButClient c (copy_of e)) xs → i < length xs → d ≡ get_or xs i d
    → text ≡ text_of (copy_of d).client
    → middle ≡ old ++ flat_map (copy_text k) (map copy_of (take i xs))
    → new ≡ middle ++ (f ++ (text ++ b))
    → new ≡ old ++ flat_map (copy_text k) (map copy_of (take (i + 1) xs))
client_added k c xs i d f b text old middle new around same below is printed first then =
    let alike = subst (λ (e : Delivery). SameButClient c (copy_of e)) (sym is) (same i d below) in
    line_added k xs i d (f ++ (text ++ b)) old middle new below is
    (ap (λ t. f ++ (t ++ b)) printed ∙ sym (around (copy_of d).client)
    ∙ ap (copy_text k) (sym alike)) first then

-- of one that differs in its message's topic alone
pub topic_added : (k : ℕ) (c : Copy) (xs : List Delivery) (i : ℕ) (d : Delivery)
    (f b text old middle new : List ℕ)
    → ((t : List ℕ) → copy_text k (with_message t c.payload c) ≡ f ++ (text_of t ++ b))
    → All (λ e. SameButMessage c (copy_of e)) xs → i < length xs → d ≡ get_or xs i d
    → (copy_of d).payload ≡ c.payload → text ≡ text_of (copy_of d).topic
    → middle ≡ old ++ flat_map (copy_text k) (map copy_of (take i xs))
    → new ≡ middle ++ (f ++ (text ++ b))
    → new ≡ old ++ flat_map (copy_text k) (map copy_of (take (i + 1) xs))
topic_added k c xs i d f b text old middle new around same below is payload printed first then =
    let alike = subst (λ (e : Delivery). SameButMessage c (copy_of e)) (sym is) (same i d below) in
    line_added k xs i d (f ++ (text ++ b)) old middle new below is
    (ap (λ t. f ++ (t ++ b)) printed ∙ sym (around (copy_of d).topic)
    ∙ ap (λ p. copy_text k (with_message (copy_of d).topic p c)) (sym payload)
    ∙ ap (copy_text k) (sym alike.0)) first then

-- of one that differs in its message alone
pub message_added : (k : ℕ) (c : Copy) (xs : List Delivery) (i : ℕ) (d : Delivery)
    (f m b payload topic old middle new : List ℕ)
    → ((t p : List ℕ) → copy_text k (with_message t p c)
    ≡ f ++ (text_of p ++ (m ++ (text_of t ++ b))))
    → All (λ e. SameButMessage c (copy_of e)) xs → i < length xs → d ≡ get_or xs i d
    → payload ≡ text_of (copy_of d).payload → topic ≡ text_of (copy_of d).topic
    → middle ≡ old ++ flat_map (copy_text k) (map copy_of (take i xs))
    → new ≡ middle ++ (f ++ (payload ++ (m ++ (topic ++ b))))
    → new ≡ old ++ flat_map (copy_text k) (map copy_of (take (i + 1) xs))
message_added k c xs i d f m b payload topic old middle new around same below is p_is t_is first
    then =
    let alike = subst (λ (e : Delivery). SameButMessage c (copy_of e)) (sym is) (same i d below) in
    line_added k xs i d (f ++ (payload ++ (m ++ (topic ++ b)))) old middle new below is
    (ap (λ p. f ++ (p ++ (m ++ (topic ++ b)))) p_is
    ∙ ap (λ t. f ++ (text_of (copy_of d).payload ++ (m ++ (t ++ b)))) t_is
    ∙ sym (around (copy_of d).topic (copy_of d).payload)
    ∙ ap (copy_text k) (sym alike.0)) first then
