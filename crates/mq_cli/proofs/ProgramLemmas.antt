-- What the program's options and faults say.
use Rattle.std.proofs.Common.{◌≡◌, ◌∙◌, ◌⊎◌, inl, inr, [], ℕ, List, Option, Some, None, Result, Ok}
use Rattle.std.proofs.Common.{Err, refl, sym, ap, ap₂, subst, arith, codes, string_bytes}
use Rattle.std.specs.Prelude.{IfOk, IfErr, option_map, unwrap_or}
use Rattle.std.proofs.lemmas.Str.{IsUtf8-nil}
use Rattle.clap.specs.Words.{Kinds, IsAmong}
use Rattle.clap.specs.declared.error.ErrorKind.TheVariants.{DisplayHelp}
use Rattle.mq_acl.specs.AccessLists.{AccessList}
use Rattle.mq_acl.specs.Rows.{rows_by}
use Rattle.mq_acl.specs.declared.rules.Rules.{Rules}
use Rattle.mq_acl.specs.declared.rules.Rules.TheVariants.{Own, Mosquitto}
use Rattle.mq_world.specs.World.{World, Limits, fresh_world, empty_world, ruled, within}
use Rattle.mq_cli.specs.declared.command_line.Options.{Options}
use Rattle.mq_args.specs.declared.usage.UsageFault.{UsageFault}
use Rattle.mq_args.specs.declared.usage.UsageFault.TheVariants.{Help, Usage, Memory}
use Rattle.mq_cli.specs.declared.failure.Failure.{Failure}
use Rattle.mq_cli.specs.declared.failure.Failure.TheVariants as failure
use Rattle.mq_args.specs.Usage.{IsFaultOf}
use Rattle.mq_cli.specs.CommandLine.{AreGiven, given, rules_given}
use Rattle.mq_run.specs.Ending.{AppendsSome}
use Rattle.mq_run.specs.Output.{output}
use Rattle.mq_cli.specs.Program.{script_file, failure_status, limits_by, limits_given, BeginsIn}
use Rattle.mq_cli.specs.Program.{IsScript, WritesFront, PrintsUsage}
use Rattle.mq_run.proofs.FrontLemmas.{AppendsSome-none}

-- where the words have no fault, memory ran out
pub memory_only : (kinds : Kinds) (fault : UsageFault) → kinds ≡ [] → IsFaultOf kinds fault
    → fault ≡ Memory
memory_only kinds (Help text) e h =
    absurd (let bad : IsAmong DisplayHelp [] = subst (IsAmong DisplayHelp) e h in bad)
memory_only kinds (Usage text) e h =
    absurd (let bad : IsAmong h.0 [] = subst (IsAmong h.0) e h.2 in bad)
memory_only kinds Memory e h = refl

-- an option that maps to none is none
pub none_from_map : {A B : Type 0} (f : A → B) (o : Option A) (g : Option B) → option_map f o ≡ g
    → g ≡ None → o ≡ None
none_from_map f None g e h = refl
none_from_map f (Some x) g e h = absurd (let bad : Some (f x) ≡ None = e ∙ h in cc)

-- a failure has one of two statuses
pub failure_two : (f : Failure) → (failure_status f ≡ 2 → ⊥) → (failure_status f ≡ 3 → ⊥) → ⊥
failure_two failure.Read two three = three refl
failure_two failure.Write two three = three refl
failure_two failure.TooMuch two three = three refl
failure_two failure.Memory two three = three refl
failure_two (failure.AclRead file) two three = two refl
failure_two (failure.AclTooLong file) two three = two refl
failure_two (failure.AclUtf8 file) two three = two refl
failure_two (failure.AclLine file line kind) two three = two refl
failure_two (failure.Script file) two three = two refl

-- and so has the program, where it shows one: 3 too where there was no memory for the text
pub shown_two : (f : Failure) (status : ℕ) → (status ≡ failure_status f) ⊎ (status ≡ 3)
    → (status ≡ 2 → ⊥) → (status ≡ 3 → ⊥) → ⊥
shown_two f status (inl shown) two three = failure_two f (λ e. two (shown ∙ e)) (λ e. three
    (shown ∙ e))
shown_two f status (inr memory) two three = three memory

-- where a failure's status is 3, so is the program's
pub shown_three : (f : Failure) (status : ℕ) → (status ≡ failure_status f) ⊎ (status ≡ 3)
    → failure_status f ≡ 3 → status ≡ 3
shown_three f status (inl shown) e = shown ∙ e
shown_three f status (inr memory) e = memory

-- where the program's status is 2, so is the failure's
pub shown_unreadable : (f : Failure) (status : ℕ) → (status ≡ failure_status f) ⊎ (status ≡ 3)
    → status ≡ 2 → failure_status f ≡ 2
shown_unreadable f status (inl shown) e = sym shown ∙ e
shown_unreadable f status (inr memory) e = absurd (omega arith)

-- ## Words that give no options

-- for lack of memory nothing is written
pub usage_memory : (fault : UsageFault) (status : ℕ) (before after flushed : Option (List ℕ))
    → PrintsUsage fault status before after flushed
    → fault ≡ Memory → (status ≡ 3) × (after ≡ before)
usage_memory (Help text) status before after flushed shows e =
    absurd (let bad : Help text ≡ Memory = e in cc)
usage_memory (Usage text) status before after flushed shows e =
    absurd (let bad : Usage text ≡ Memory = e in cc)
usage_memory Memory status before after flushed shows e = shows

-- neither 2 nor 3 is the status of help alone, all of it
pub usage_done : (fault : UsageFault) (status : ℕ) (before after flushed : Option (List ℕ))
    → PrintsUsage fault status before after flushed
    → (status ≡ 2 → ⊥) → (status ≡ 3 → ⊥) → (status ≡ 0) × (flushed ≡ after)
usage_done (Help text) status before after flushed (inl done) two three = (done.0, done.2)
usage_done (Help text) status before after flushed (inr failed) two three = absurd (three failed.0)
usage_done (Usage text) status before after flushed shows two three = absurd (two shows.0)
usage_done Memory status before after flushed shows two three = absurd (three shows.0)

-- ## The world and the script of a run

-- a run without an ACL file begins in the empty world, within its limits and with its rules
pub begins_empty : (rules : Rules) (file : Option (List ℕ)) (limits : Limits) (w : World)
    → file ≡ None → BeginsIn rules file limits w → w ≡ ruled rules (within limits empty_world)
begins_empty rules None limits w e begins = begins.2
    ∙ ap (λ access. ruled rules (within limits (fresh_world access))) begins.1
begins_empty rules (Some x) limits w e begins = absurd (let bad : Some x ≡ None = e in cc)

-- where no script file is named, the script is the input, if that is known
pub script_shown : (file to_come : Option (List ℕ)) (script bytes : List ℕ) → file ≡ None
    → to_come ≡ Some bytes → IsScript file to_come script → script ≡ bytes
script_shown None None script bytes e f is = absurd (let bad : None ≡ Some bytes = f in cc)
script_shown None (Some xs) script bytes e f is = let same : xs ≡ bytes =
    let g : Some xs ≡ Some bytes = f in cc in is ∙ same
script_shown (Some x) to_come script bytes e f is = absurd (let bad : Some x ≡ None = e in cc)

-- what is shown of a world that the run begins in is shown of some world that it begins in
pub IfOk-begun : {T E : Type 0} (result : Result T E) (rules : Rules) (file : Option (List ℕ))
    (limits : Limits) (w : World) (Q : List ℕ → Type 0) (P : World → List ℕ → T → Type 0)
    → BeginsIn rules file limits w
    → IfOk result (λ x. (script : List ℕ) × Q script × P w script x)
    → IfOk result (λ x. (v : World) × BeginsIn rules file limits v × (script : List ℕ)
    × Q script × P v script x)
IfOk-begun (Ok x) rules file limits w Q P begins h = (w, begins, h.0, h.1, h.2)
IfOk-begun (Err e) rules file limits w Q P begins h = tt

-- where a script file is named, any script may be its text: what is shown of some script stays so
pub IfOk-file : {T E : Type 0} (result : Result T E) (name : List ℕ)
    (file to_come : Option (List ℕ)) (P : List ℕ → T → Type 0)
    → Some name ≡ file → IfOk result (λ x. (script : List ℕ) × P script x)
    → IfOk result (λ x. (script : List ℕ) × IsScript file to_come script × P script x)
IfOk-file (Ok x) name file to_come P e h =
    (h.0, subst (λ (f : Option (List ℕ)). IsScript f to_come h.0) e tt, h.1)
IfOk-file (Err e) name file to_come P f h = tt

-- what is shown of some script is so without the first of two claims about it
pub IfOk-some : {T E : Type 0} (result : Result T E) (Q : List ℕ → Type 0) (P : List ℕ → T → Type 0)
    → IfOk result (λ x. (script : List ℕ) × Q script × P script x)
    → IfOk result (λ x. (script : List ℕ) × P script x)
IfOk-some (Ok x) Q P h = (h.0, h.2)
IfOk-some (Err e) Q P h = tt

-- what follows from a claim about an error follows from it for a result's error, if it has one
pub IfErr-map : {T E : Type 0} (result : Result T E) (P Q : E → Type 0) → ((e : E) → P e → Q e)
    → IfErr result P → IfErr result Q
IfErr-map (Ok x) P Q f h = tt
IfErr-map (Err e) P Q f h = f e h

-- ## What was written

-- where a script file is named, it is enough that a front of what some script writes was written
pub WritesFront-file : (w : World) (name : List ℕ) (file to_come before after : Option (List ℕ))
    → Some name ≡ file
    → (script : List ℕ) × AppendsSome before after (output w script)
    → WritesFront w file to_come before after
WritesFront-file w name file to_come before after e h =
    (h.0, subst (λ (f : Option (List ℕ)). IsScript f to_come h.0) e tt, h.1)

-- a text that the input may hold
some_script : (file to_come : Option (List ℕ)) → (script : List ℕ) × IsScript file to_come script
some_script None None = ([], tt)
some_script None (Some bytes) = (bytes, refl)
some_script (Some file) to_come = ([], tt)

-- to write nothing is to write a front
pub WritesFront-none : (w : World) (file to_come before : Option (List ℕ))
    → WritesFront w file to_come before before
WritesFront-none w file to_come before =
    let script = some_script file to_come in
    (script.0, script.1, AppendsSome-none before (output w script.0))

-- an empty text has no rows, and no fault
rows_by-nil : (rules : Rules) → rows_by rules [] ≡ Ok []
rows_by-nil Own = refl
rows_by-nil Mosquitto = refl

-- some world is one that a run may begin in: an empty file is an access list without rows
pub BeginsIn-some : (rules : Rules) (file : Option (List ℕ)) (limits : Limits) → (w : World)
    × BeginsIn rules file limits w
BeginsIn-some rules None limits =
    (ruled rules (within limits (fresh_world None)), (None, refl, refl))
BeginsIn-some rules (Some file) limits =
    let list : AccessList = record { rules = rules; rows = [] } in (
      ruled rules (within limits (fresh_world (Some list))),
      (Some list, ([], list, (IsUtf8-nil, refl, rows_by-nil rules), refl), refl),
    )

-- the rules of the options are those in the words
pub rules_are : (words : List (List ℕ)) (options : Options) → AreGiven words options
    → options.rules ≡ rules_given words
rules_are words options are = ap (λ asked. unwrap_or asked Own) are.rules

-- a world that a run begins in by its options is one by the words that they are of
pub begins_given : (words : List (List ℕ)) (options : Options) (w : World) → AreGiven words options
    → BeginsIn options.rules (option_map string_bytes options.acl_file)
    (limits_by options.max_retained options.max_queued) w
    → BeginsIn (rules_given words) (given (codes "acl-file") words) (limits_given words) w
begins_given words options w are begins =
    let file = given (codes "acl-file") words in
    let limits = limits_by options.max_retained options.max_queued in
    subst (λ (l : Limits). BeginsIn (rules_given words) file l w)
    (ap₂ limits_by are.max_retained are.max_queued)
    (subst (λ (rules : Rules). BeginsIn rules file limits w) (rules_are words options are)
    (subst (λ (f : Option (List ℕ)). BeginsIn options.rules f limits w) are.acl_file begins))

-- what is said of options is said of the words that they are of
pub prefix_given : (words : List (List ℕ)) (options : Options)
    (to_come before after : Option (List ℕ)) → AreGiven words options
    → (w : World) × BeginsIn options.rules (option_map string_bytes options.acl_file)
    (limits_by options.max_retained options.max_queued) w
    × WritesFront w (script_file (option_map string_bytes options.script)) to_come before after
    → (w : World) × BeginsIn (rules_given words) (given (codes "acl-file") words)
    (limits_given words) w
    × WritesFront w (script_file (given (codes "script") words)) to_come before after
prefix_given words options to_come before after are begun = (
  begun.0,
  begins_given words options begun.0 are begun.1,
  subst (λ (file : Option (List ℕ)). WritesFront begun.0 (script_file file) to_come before
      after) are.script begun.2,
)
