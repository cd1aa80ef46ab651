-- No fault of a text is lack of memory.
use Rattle.std.proofs.Common.{◌≡◌, ◌≢◌, ◌==◌, ◌+◌, ◌&&◌, not, Bool, true, false, cond, ℕ, List}
use Rattle.std.proofs.Common.{[], ◌∷◌, length, Option, Some, None}
use Rattle.std.proofs.Common.{ap, ◌∙◌}
use Rattle.std.specs.Prelude.{position, slice_get}
use Rattle.std.specs.Option.{option_map, option_or}
use Rattle.std.specs.List.{cons_option, enumerate_from, filter_map}
use Rattle.mq_topic.specs.Levels.{levels}
use Rattle.mq_plan.specs.Lines.{Entry, Skipped, Renamed, Kept, Gone, Unread, entry_of}
use Rattle.mq_plan.specs.Pairs
use Rattle.mq_plan.specs.Rules.{entry_fault, fault_at, faults_in}
use Rattle.mq_plan.specs.Sides.{begins_with_plus, first_level_fault, is_capture, is_fit}
use Rattle.mq_plan.specs.Sides.{is_long_side, is_mark}
use Rattle.mq_plan.specs.Sides.{level_fault, side_fault}
use Rattle.mq_plan.specs.declared.fault.PlanFault.{PlanFault}
use Rattle.mq_plan.specs.declared.fault.PlanKind.{PlanKind}
use Rattle.mq_plan.specs.declared.fault.PlanKind.TheVariants as kinds
use Rattle.mq_plan.specs.declared.fault.Side.{Side}
use Rattle.mq_plan.specs.declared.fault.Side.TheVariants.{Left, Right}

-- if there is a fault, it is none of memory
record IsOwn (fault : Option PlanKind) : Type 0 where
  shown : (kind : PlanKind) → fault ≡ Some kind → kind ≢ kinds.Memory

no_fault : IsOwn None
no_fault = record { shown = λ kind e. absurd (cc) }

a_fault : (kind : PlanKind) → kind ≢ kinds.Memory → IsOwn (Some kind)
a_fault kind own =
    record { shown = λ other e m. own (let same : kind ≡ other = cc in same ∙ m) }

chosen : (b : Bool) (x y : Option PlanKind) → IsOwn x → IsOwn y → IsOwn (cond b x y)
chosen true x y h k = h
chosen false x y h k = k

either : (x y : Option PlanKind) → IsOwn x → IsOwn y → IsOwn (option_or x y)
either None y h k = k
either (Some kind) y h k = h

mapped : (f : ℕ → PlanKind) (o : Option ℕ) → ((i : ℕ) → f i ≢ kinds.Memory)
    → IsOwn (option_map f o)
mapped f None h = no_fault
mapped f (Some i) h = a_fault (f i) (h i)

first : {X : Type 0} (f : X → Option PlanKind) (xs : List X) → ((x : X) → IsOwn (f x))
    → IsOwn (slice_get (filter_map f xs) 0)
first f [] h = no_fault
first f (x ∷ xs) h = at (f x) (h x) (first f xs h)
  where
    at : (o : Option PlanKind) → IsOwn o → IsOwn (slice_get (filter_map f xs) 0)
        → IsOwn (slice_get (cons_option o (filter_map f xs)) 0)
    at None own more = more
    at (Some kind) own more = own

own_level : (side : Side) (count : ℕ) (placed : ℕ × List ℕ) → IsOwn (level_fault side count placed)
own_level side count placed =
    chosen (begins_with_plus placed.1 && not (is_capture placed.1))
    (Some (kinds.Capture side placed.0)) _
    (a_fault (kinds.Capture side placed.0) (λ e. cc))
    (chosen (is_mark placed.1) (Some (kinds.Mark side placed.0)) _
    (a_fault (kinds.Mark side placed.0) (λ e. cc))
    (chosen (not (is_fit (placed.0 + 1 == count) placed.1)) (Some (kinds.Side side placed.0)) None
    (a_fault (kinds.Side side placed.0) (λ e. cc)) no_fault))

own_side : (side : Side) (text : List ℕ) → IsOwn (side_fault side text)
own_side side text =
    let ls = levels text in
    chosen (length text == 0) (Some (kinds.Missing side)) _
    (a_fault (kinds.Missing side) (λ e. cc))
    (chosen (is_long_side ls) (Some (kinds.Long side)) (first_level_fault side ls)
    (a_fault (kinds.Long side) (λ e. cc))
    (first (level_fault side (length ls)) (enumerate_from 0 ls) (own_level side (length ls))))

own_twice : (left : List (List ℕ)) → IsOwn (Pairs.twice_fault left)
own_twice left = mapped (λ i. kinds.Twice i) (position (Pairs.is_twice left) left) (λ i e. cc)

own_pair : (left right : List (List ℕ)) → IsOwn (Pairs.pair_fault left right)
own_pair left right =
    let unnamed = kinds.Unnamed (Pairs.plus_count left) (Pairs.plus_count right) in
    either (Pairs.twice_fault left) _ (own_twice left)
    (either (Pairs.unnamed_fault left right) _
    (chosen (Pairs.are_paired left right) None (Some unnamed) no_fault (a_fault unnamed (λ e. cc)))
    (either (Pairs.unbound_fault left right) (Pairs.front_fault right)
    (mapped (λ i. kinds.Unbound i) (position (Pairs.is_unbound left) right) (λ i e. cc))
    (chosen (Pairs.begins_with_wildcard right) (Some kinds.Front) None
    (a_fault kinds.Front (λ e. cc)) no_fault)))

own_left : (left : List ℕ) → IsOwn (Pairs.left_fault left)
own_left left = either (side_fault Left left) (Pairs.twice_fault (levels left))
    (own_side Left left) (own_twice (levels left))

own_entry : (entry : Entry) → IsOwn (entry_fault entry)
own_entry Skipped = no_fault
own_entry (Renamed left right) =
    chosen (length right == 0) (Some (kinds.Missing Right)) _
    (a_fault (kinds.Missing Right) (λ e. cc))
    (either (side_fault Left left) _ (own_side Left left)
    (either (side_fault Right right) (Pairs.pair_fault (levels left) (levels right))
    (own_side Right right) (own_pair (levels left) (levels right))))
own_entry (Kept left) = own_left left
own_entry (Gone left) = own_left left
own_entry Unread = a_fault kinds.Rule (λ e. cc)

own_faults : (n : ℕ) (ls : List (List ℕ)) (fault : PlanFault)
    → slice_get (filter_map fault_at (enumerate_from n ls)) 0 ≡ Some fault
    → fault.kind ≢ kinds.Memory
own_faults n [] fault e = absurd (cc)
own_faults n (l ∷ ls) fault e =
    at (entry_fault (entry_of l)) (own_entry (entry_of l)) (own_faults (n + 1) ls fault) e
  where
    more : List PlanFault
    more = filter_map fault_at (enumerate_from (n + 1) ls)

    at : (o : Option PlanKind) → IsOwn o
        → (slice_get more 0 ≡ Some fault → fault.kind ≢ kinds.Memory)
        → slice_get (cons_option (option_map (λ kind. record { line = n; kind = kind }) o) more) 0
        ≡ Some fault → fault.kind ≢ kinds.Memory
    at None own next f = next f
    at (Some kind) own next f = own.shown fault.kind
        (ap (option_map (λ (shown : PlanFault). shown.kind)) f)

-- the first of a text's faults
pub fault_is_own : (ls : List (List ℕ)) (fault : PlanFault)
    → slice_get (faults_in ls) 0 ≡ Some fault → fault.kind ≢ kinds.Memory
fault_is_own ls fault e = own_faults 1 ls fault e
