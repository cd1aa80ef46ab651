-- What is shown of a script that isn't searched to its end.
use Rattle.std.proofs.Common.{◌≡◌, ℕ, ◌==◌, ◌&&◌, ◌||◌, Bool, true, false, cond, not, List, []}
use Rattle.std.proofs.Common.{◌∷◌, ◌++◌, Option, Some, None, map, refl, sym, ap, subst}
use Rattle.std.proofs.Common.{◌∙◌, append_assoc, append-nil, inl, inr}
use Rattle.std.specs.List.{list_all}
use Rattle.std.proofs.Math.Bool.{or-true}
use Rattle.std.proofs.lemmas.Bool.{and_from, and_parts, not-true, or_cases}
use Rattle.std.proofs.lemmas.List.Folds.{list_all-append}
use Rattle.mq_acl.specs.AccessLists.{AccessList}
use Rattle.mq_acl.specs.Views.{row_views}
use Rattle.mq_acl.specs.declared.row.Row.{Row}
use Rattle.mq_acl.specs.declared.rules.Rules.{Rules}
use Rattle.mq_world.specs.After.{next}
use Rattle.mq_world.specs.Lists.{Text}
use Rattle.mq_world.specs.Sessions.{user_of}
use Rattle.mq_world.specs.World.{Request, World}
use Rattle.mq_jsonl.specs.Lines.{all_lines, command_in, last_piece, piece_line, whole_lines}
use Rattle.mq_jsonl.specs.Feeding.{EndsLine, HasNext}
use Rattle.mq_jsonl.specs.declared.line_feeder.LineFeeder.{LineFeeder}
use Rattle.mq_jsonl.specs.Reading.{reading}
use Rattle.mq_jsonl.proofs.PieceLemmas.{whole_lines-grown}
use Rattle.mq_reach.specs.Faults.{FailsIn, IsFaultAmong, IsScriptFault, IsSearchFault, StopsWith}
use Rattle.mq_reach.specs.Faults.{has_long_at, is_long_at, is_short_question}
use Rattle.mq_reach.specs.Reach.{list_by}
use Rattle.mq_reach.specs.Script.{HoldsScript, TakesBytes}
use Rattle.mq_reach.specs.Search.{IsSearched}
use Rattle.mq_reach.specs.Subscriptions.{Kept, stays, subscriptions, world_of}
use Rattle.mq_reach.specs.declared.question.SearchFault.{SearchFault}
use Rattle.mq_reach.specs.declared.question.SearchFault.TheVariants as search
use Rattle.mq_reach.specs.declared.reading.Reading.{Reading}
use Rattle.mq_reach.specs.declared.search.Search.{Search}
use Rattle.mq_reach.specs.declared.reading.ScriptFault.{ScriptFault}
use Rattle.mq_reach.specs.declared.reading.ScriptFault.TheVariants as script
use Rattle.mq_reach.proofs.AmongLemmas.{grown_fault}
use Rattle.mq_reach.proofs.GrownLemmas.{grown}
use Rattle.mq_reach.proofs.ScriptLemmas.{subscriptions-kept}
use Rattle.mq_reach.proofs.SearchLemmas.{says}
use Rattle.mq_reach.proofs.KeyLemmas.{key_of}

-- ## Among more lines

grown-long : (list : AccessList) (line : ℕ) (w : World) (command : Option Request) (one : Kept)
    → is_long_at list line one ≡ true → is_long_at list line (grown w command one) ≡ true
grown-long list line w None one long = long
grown-long list line w (Some request) one long =
    let short : Option Text → Bool = is_short_question list one.shown in
    let user : Option Text = user_of (next w request).sessions one.shown.client in
    let both = and_parts (one.shown.line == line) (not (list_all short one.users)) long in
    elim (one.is_open && stays (key_of one.shown) w request) as (λ b. is_long_at list line
    (cond b (record one { users = one.users ++ user ∷ [] })
    (record one { is_open = false })) ≡ true) [
      | true ↦ and_from (one.shown.line == line)
          (not (list_all short (one.users ++ user ∷ []))) both.0
          (ap not (list_all-append short one.users (user ∷ [])
          ∙ ap (λ b. b && list_all short (user ∷ []))
          (not-true (list_all short one.users) both.1)))
      | false ↦ long
    ]

all-grown : (list : AccessList) (line : ℕ) (w : World) (command : Option Request) (all : List Kept)
    → has_long_at list line all ≡ true → has_long_at list line (map (grown w command) all) ≡ true
all-grown list line w command [] long = long
all-grown list line w command (kept ∷ all) long =
    elim (or_cases (is_long_at list line kept) (has_long_at list line all) long)
    as (λ _. has_long_at list line (map (grown w command) (kept ∷ all)) ≡ true) [
      | inl e ↦ ap (λ b. b || has_long_at list line (map (grown w command) all))
          (grown-long list line w command kept e)
      | inr e ↦ ap (λ b. is_long_at list line (grown w command kept) || b)
          (all-grown list line w command all e)
          ∙ or-true (is_long_at list line (grown w command kept))
    ]

grown-fault : (list : AccessList) (w : World) (command : Option Request) (all : List Kept)
    (fault : SearchFault) → IsFaultAmong list all fault
    → IsFaultAmong list (map (grown w command) all) fault
grown-fault list w command all search.Memory is = tt
grown-fault list w command all (search.Row line) is = is
grown-fault list w command all (search.Subscription line) is = all-grown list line w command all is

-- one of the first lines is one of all
pub more_fault : (list : AccessList) (xs ys : List (List ℕ)) (fault : SearchFault)
    → IsFaultAmong list (subscriptions xs) fault
    → IsFaultAmong list (subscriptions (xs ++ ys)) fault
more_fault list xs [] fault is = subst (λ ls. IsFaultAmong list (subscriptions ls) fault)
    (sym (append-nil xs)) is
more_fault list xs (y ∷ ys) fault is =
    let c : Option Request = command_in (reading y) in
    subst (λ ls. IsFaultAmong list (subscriptions ls) fault) (append_assoc xs (y ∷ []) ys)
    (more_fault list (xs ++ y ∷ []) ys fault
    (grown_fault list xs y c fault (says y c refl)
    (grown-fault list (world_of xs) c (subscriptions xs) fault is)))

-- ## Of bytes

-- lack of memory may be shown of any bytes
pub FailsIn-memory : (list : AccessList) (r : Reading) (bytes : List ℕ)
    → FailsIn list r bytes search.Memory
unfolding FailsIn
FailsIn-memory list r bytes = λ given holds. tt

-- a fault of a line that stands behind those that are searched
pub next_fault : (list : AccessList) (lines all : List (List ℕ)) (f : LineFeeder) (p : Search)
    (fault : SearchFault) → HasNext lines all f
    → ((before : List (List ℕ)) → IsSearched list before p
    → IsFaultAmong list (subscriptions (before ++ f.line.items ∷ [])) fault)
    → IsSearched list lines p → IsFaultAmong list (subscriptions all) fault
next_fault list lines all f p fault has fails is =
    subst (λ l. IsFaultAmong list (subscriptions l) fault) (sym has.next)
    (subst (λ l. IsFaultAmong list l fault) (subscriptions-kept lines has.line)
    (subst (λ l. IsFaultAmong list (subscriptions (lines ++ l ∷ [])) fault) has.at_hand
    (fails lines is)))

-- a fault of the line that ends here
pub FailsIn-line : (list : AccessList) (r : Reading) (f : LineFeeder) (bytes : List ℕ)
    (fault : SearchFault) → EndsLine r.feeder f bytes
    → ((before : List (List ℕ)) → IsSearched list before r.search
    → IsFaultAmong list (subscriptions (before ++ f.line.items ∷ [])) fault)
    → FailsIn list r bytes fault
unfolding FailsIn EndsLine
FailsIn-line list r f bytes fault ends fails = λ given holds.
    next_fault list (whole_lines given) (whole_lines (given ++ bytes)) f r.search fault
    (ends given holds.line).0 fails holds.searched

-- a fault in bytes is one in more of them, also where others were taken before
pub FailsIn-more : (list : AccessList) (p q : Reading) (taken bytes others all : List ℕ)
    (fault : SearchFault) → TakesBytes list p q taken → all ≡ taken ++ (bytes ++ others)
    → FailsIn list q bytes fault → FailsIn list p all fault
unfolding FailsIn TakesBytes
FailsIn-more list p q taken bytes others all fault takes same fails = λ given holds.
    let grown = whole_lines-grown ((given ++ taken) ++ bytes) others in
    let is : whole_lines (given ++ all) ≡ whole_lines ((given ++ taken) ++ bytes) ++ grown.0 =
    ap (λ l. whole_lines (given ++ l)) same
    ∙ ap whole_lines (sym (append_assoc given taken (bytes ++ others))
    ∙ sym (append_assoc (given ++ taken) bytes others)) ∙ grown.1 in
    subst (λ l. IsFaultAmong list (subscriptions l) fault) (sym is)
    (more_fault list (whole_lines ((given ++ taken) ++ bytes)) grown.0 fault
    (fails (given ++ taken) (takes given holds)))

-- ## Of a script

-- a fault among a script's subscriptions is one of its search
pub script_fault : (rules : Rules) (rows : List Row) (given : List ℕ) (fault : SearchFault)
    → IsFaultAmong (list_by rules (row_views rows)) (subscriptions (all_lines given)) fault
    → IsSearchFault rules rows given fault
script_fault rules rows given search.Memory is = tt
script_fault rules rows given (search.Row line) is = absurd is
script_fault rules rows given (search.Subscription line) is = is

-- where reading begins with these bytes, a fault in them is one of the search
pub read_fault : (rules : Rules) (rows : List Row) (r : Reading) (given : List ℕ)
    (fault : SearchFault) → HoldsScript (list_by rules (row_views rows)) [] r
    → FailsIn (list_by rules (row_views rows)) r given fault
    → IsSearchFault rules rows given fault
unfolding FailsIn
read_fault rules rows r given fault holds fails =
    script_fault rules rows given fault (more_fault (list_by rules (row_views rows))
    (whole_lines given) (piece_line (last_piece given)) fault (fails [] holds))

-- where reading began with nothing read, what it stops with may be shown of the script
pub stopped : (rules : Rules) (rows : List Row) (list : AccessList) (r : Reading)
    (before after : Option (List ℕ)) (fault : ScriptFault)
    → list ≡ list_by rules (row_views rows) → HoldsScript list [] r
    → StopsWith list r before after fault → IsScriptFault rules rows before after fault
stopped rules rows list r before after (script.Read error) same holds is = tt
stopped rules rows list r before after script.TooLong same holds is = is
stopped rules rows list r before after (script.Search fault) same holds is = (
  is.0,
  is.1,
  read_fault rules rows r is.0 fault
      (subst (λ (l : AccessList). HoldsScript l [] r) same holds)
      (subst (λ (l : AccessList). FailsIn l r is.0 fault) same is.2),
)
