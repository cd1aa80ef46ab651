-- What the words say of `--rules`.
use Rattle.std.proofs.Common.{◌≡◌, ◌∙◌, [], ◌∷◌, List, Option, Some, None, Result, Ok, Err, ap, refl}
use Rattle.std.proofs.Common.{codes, inl, inr, sym}
use Rattle.std.specs.Prelude.{IfOk, OnOk, is_some, if◌then◌else◌}
use Rattle.std.specs.Option.{option_map_or}
use Rattle.clap.specs.Kinds.{or_else}
use Rattle.clap.specs.Words.{HasKind, IsAmong, Kinds, Text, fault_of}
use Rattle.clap.specs.declared.error.Error.{Error}
use Rattle.clap.specs.declared.error.ErrorKind.{ErrorKind}
use Rattle.clap.specs.declared.error.ErrorKind.TheVariants.{InvalidValue}
use Rattle.mq_acl.specs.AccessLists.{rules_named}
use Rattle.mq_acl.specs.declared.rules.Rules.{Rules}
use Rattle.mq_acl.specs.declared.rules.Rules.TheVariants.{Own}
use Rattle.mq_args.specs.Usage.{IsFaultOf}
use Rattle.mq_args.specs.declared.usage.UsageFault.{UsageFault}
use Rattle.mq_args.specs.declared.usage.UsageFault.TheVariants.{Help, Usage, Memory}
use Rattle.mq_cli.specs.declared.command_line.Options.{Options}
use Rattle.mq_cli.specs.CommandLine.{AreGiven, faults_in, given, mqroute, rules_asked}

-- a kind among the first is among both
among_first : (k : ErrorKind) (first next : Kinds) → IsAmong k first
    → IsAmong k (or_else first next)
among_first k [] next h = absurd h
among_first k (x ∷ xs) next h = h

-- what `clap` says of the words is said of them
pub has_fault : (words : List Text) (error : Error) → HasKind (fault_of mqroute words) error
    → HasKind (faults_in words) error
has_fault words error (inl memory) = inl memory
has_fault words error (inr among) = inr (among_first _ _ _ among)

-- that memory ran out may stand in place of any fault
pub memory_is_fault : (kinds : Kinds) (fault : UsageFault) → fault ≡ Memory → IsFaultOf kinds fault
memory_is_fault kinds (Help text) e = absurd (let bad : Help text ≡ Memory = e in cc)
memory_is_fault kinds (Usage text) e = absurd (let bad : Usage text ≡ Memory = e in cc)
memory_is_fault kinds Memory e = tt

-- where `clap` takes the words and they name rules, they have no fault
no_fault : (faults : Kinds) (asked : Option Rules) (rules : Rules) → faults ≡ []
    → Some rules ≡ asked
    → or_else faults (if is_some asked then [] else InvalidValue ∷ []) ≡ []
no_fault [] (Some x) rules e is = refl
no_fault [] None rules e is = absurd (let bad : Some rules ≡ None = is in cc)
no_fault (k ∷ ks) asked rules e is = absurd (let bad : k ∷ ks ≡ [] = e in cc)

pub OnOk-given : {E : Type 0} (result : Result Options E) (words : List Text)
    → fault_of mqroute words ≡ [] → IfOk result (AreGiven words)
    → OnOk result (faults_in words ≡ [])
OnOk-given (Ok options) words taken are =
    no_fault (fault_of mqroute words) (rules_asked words) options.rules taken are.rules
OnOk-given (Err e) words taken are = tt

-- where they name no rules these are our own
pub own_asked : (words : List Text) → given (codes "rules") words ≡ None
    → Some Own ≡ rules_asked words
own_asked words none =
    sym (ap (λ (word : Option Text). option_map_or rules_named word (Some Own)) none)

-- and where they name them, those of the word
pub word_asked : (words : List Text) (word : Text) → given (codes "rules") words ≡ Some word
    → rules_named word ≡ rules_asked words
word_asked words word is =
    sym (ap (λ (word : Option Text). option_map_or rules_named word (Some Own)) is)

-- a word that names none is a fault of the words
unknown : (faults : Kinds) (asked : Option Rules) → faults ≡ [] → asked ≡ None
    → IsAmong InvalidValue (or_else faults (if is_some asked then [] else InvalidValue ∷ []))
unknown [] None taken none = inl refl
unknown [] (Some x) taken none = absurd (let bad : Some x ≡ None = none in cc)
unknown (k ∷ ks) asked taken none = absurd (let bad : k ∷ ks ≡ [] = taken in cc)

pub is_unknown : (words : List Text) (word : Text) → given (codes "rules") words ≡ Some word
    → rules_named word ≡ None → fault_of mqroute words ≡ [] → IsAmong InvalidValue (faults_in words)
is_unknown words word is none taken =
    unknown (fault_of mqroute words) (rules_asked words) taken
    (sym (word_asked words word is) ∙ none)
