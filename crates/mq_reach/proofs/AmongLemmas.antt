-- What is shown of some subscriptions, among more of them.
use Rattle.std.proofs.Common.{◌≡◌, ℕ, List, [], ◌∷◌, ◌++◌, map, Option, sym, ap, subst, ◌∙◌}
use Rattle.std.specs.Option.{option_to_list}
use Rattle.std.proofs.lemmas.Bool.{or_left, or_right}
use Rattle.std.proofs.lemmas.List.Folds.{list_any-append}
use Rattle.mq_acl.specs.AccessLists.{AccessList}
use Rattle.mq_world.specs.World.{Request}
use Rattle.mq_jsonl.specs.Lines.{command_in}
use Rattle.mq_jsonl.specs.Reading.{reading}
use Rattle.mq_reach.specs.Faults.{IsFaultAmong, has_long_at, is_long_at}
use Rattle.mq_reach.specs.Subscriptions.{Kept, commands_of, subscriptions, world_of}
use Rattle.mq_reach.specs.declared.question.SearchFault.{SearchFault}
use Rattle.mq_reach.specs.declared.question.SearchFault.TheVariants as search
use Rattle.mq_reach.proofs.GrownLemmas.{grown, subscriptions-push}
use Rattle.mq_reach.proofs.StepLemmas.{makes_at, said}

pub front_fault : (list : AccessList) (xs ys : List Kept) (fault : SearchFault)
    → IsFaultAmong list xs fault → IsFaultAmong list (xs ++ ys) fault
front_fault list xs ys search.Memory is = tt
front_fault list xs ys (search.Row line) is = is
front_fault list xs ys (search.Subscription line) is =
    list_any-append (is_long_at list line) xs ys
    ∙ or_left (has_long_at list line xs) (has_long_at list line ys) is

pub back_fault : (list : AccessList) (xs ys : List Kept) (fault : SearchFault)
    → IsFaultAmong list ys fault → IsFaultAmong list (xs ++ ys) fault
back_fault list xs ys search.Memory is = tt
back_fault list xs ys (search.Row line) is = is
back_fault list xs ys (search.Subscription line) is =
    list_any-append (is_long_at list line) xs ys
    ∙ or_right (has_long_at list line xs) (has_long_at list line ys) is

among : (list : AccessList) (lines : List (List ℕ)) (line : List ℕ)
    (command : Option Request) (fault : SearchFault)
    → commands_of (line ∷ []) ≡ option_to_list command
    → IsFaultAmong list (map (grown (world_of lines) command) (subscriptions lines)
    ++ makes_at lines command) fault
    → IsFaultAmong list (subscriptions (lines ++ line ∷ [])) fault
among list lines line command fault says is =
    subst (λ all. IsFaultAmong list all fault)
    (sym (subscriptions-push lines line
    ∙ ap (λ c. map (grown (world_of lines) c) (subscriptions lines) ++ makes_at lines c)
    (said (command_in (reading line)) command says))) is

-- one of the subscriptions before a line, as they have grown by it
pub grown_fault : (list : AccessList) (lines : List (List ℕ)) (line : List ℕ)
    (command : Option Request) (fault : SearchFault)
    → commands_of (line ∷ []) ≡ option_to_list command
    → IsFaultAmong list (map (grown (world_of lines) command) (subscriptions lines)) fault
    → IsFaultAmong list (subscriptions (lines ++ line ∷ [])) fault
grown_fault list lines line command fault says is =
    among list lines line command fault says
    (front_fault list (map (grown (world_of lines) command) (subscriptions lines))
    (makes_at lines command) fault is)

-- or the one that the line makes
pub made_fault : (list : AccessList) (lines : List (List ℕ)) (line : List ℕ)
    (command : Option Request) (fault : SearchFault)
    → commands_of (line ∷ []) ≡ option_to_list command
    → IsFaultAmong list (makes_at lines command) fault
    → IsFaultAmong list (subscriptions (lines ++ line ∷ [])) fault
made_fault list lines line command fault says is =
    among list lines line command fault says
    (back_fault list (map (grown (world_of lines) command) (subscriptions lines))
    (makes_at lines command) fault is)
