-- One more line is searched.
use Rattle.std.proofs.Common.{◌≡◌, ℕ, ◌+◌, List, [], ◌∷◌, ◌++◌, Option, Some, None, refl, sym, ap}
use Rattle.std.proofs.Common.{subst, ◌∙◌, ◌≢◌, Result, Ok, Err}
use Rattle.std.specs.Prelude.{IfOk, IfErr}
use Rattle.std.specs.Result.{OnOk}
use Rattle.std.specs.List.{cons_option}
use Rattle.std.specs.Option.{option_to_list}
use Rattle.mq_acl.specs.AccessLists.{AccessList}
use Rattle.mq_world.specs.World.{Request, World}
use Rattle.mq_world.specs.declared.clock.Clock.{Clock}
use Rattle.mq_jsonl.specs.Lines.{command_in}
use Rattle.mq_jsonl.specs.Reading.{reading}
use Rattle.mq_jsonl.specs.Fields.{Fails}
use Rattle.mq_jsonl.specs.declared.fault.LineFault.{LineFault}
use Rattle.mq_jsonl.specs.declared.fault.LineFault.TheVariants as faults
use Rattle.mq_reach.specs.Counts.{counted}
use Rattle.mq_reach.specs.Faults.{FailsBy, IsFaultAmong}
use Rattle.mq_reach.specs.Search.{AreCounted, AreTracked, Applies, IsFound, IsSearched, IsWorldOf}
use Rattle.mq_reach.specs.Search.{kind_of}
use Rattle.mq_reach.specs.Subscriptions.{commands_of, subscriptions, world_of, world_then}
use Rattle.mq_reach.specs.Tracked.{subscription_views, unreached_of}
use Rattle.mq_reach.specs.Unreached.{AreUnreached}
use Rattle.mq_reach.specs.declared.counts.Counts.{Counts}
use Rattle.mq_reach.specs.declared.counts.LineKind.{LineKind}
use Rattle.mq_reach.specs.declared.question.SearchFault.{SearchFault}
use Rattle.mq_reach.specs.declared.search.Findings.{Findings}
use Rattle.mq_reach.specs.declared.search.Search.{Search}
use Rattle.mq_reach.proofs.CountLemmas.{counts-push, shown_in}
use Rattle.mq_reach.proofs.GrownLemmas.{world_of-push}
use Rattle.mq_reach.proofs.TrackLemmas.{AreUnreached-shown}

listed : (c : Option Request) → cons_option c [] ≡ option_to_list c
listed None = refl
listed (Some request) = refl

-- a line says its command
pub says : (line : List ℕ) (command : Option Request) → command_in (reading line) ≡ command
    → commands_of (line ∷ []) ≡ option_to_list command
says line command e = listed (command_in (reading line)) ∙ ap option_to_list e

-- the search is the same, but for a line of this kind that is counted
pub record CountsLine (old new : Search) (kind : LineKind) : Type 0 where
  pub sessions : new.sessions ≡ old.sessions
  pub clock : new.clock ≡ old.clock
  pub tracked : new.tracked ≡ old.tracked
  pub counts : new.counts ≡ counted old.counts kind

-- one more line is searched, and counted
pub IsSearched-push : (list : AccessList) (lines : List (List ℕ)) (line : List ℕ)
    (old mid new : Search) (kind : LineKind)
    → IsSearched list lines old → Applies list (command_in (reading line)) old mid
    → kind ≡ kind_of (shown_in (old.counts.lines + 1) old.sessions (command_in (reading line)))
    (reading line)
    → CountsLine mid new kind → IsSearched list (lines ++ line ∷ []) new
IsSearched-push list lines line old mid new kind is applies kind_is line_counts =
    let c : Option Request = command_in (reading line) in
    let w-is : IsWorldOf (world_then (world_of lines) c) mid =
    applies.follows (world_of lines) is.is_world in
    record {
      is_world = subst (λ (w : World). IsWorldOf w new) (sym (world_of-push lines line)) (record {
        sessions = line_counts.sessions ∙ w-is.sessions;
        moment = ap (λ (k : Clock). k.moment) line_counts.clock ∙ w-is.moment;
      });
      tracked = subst (AreTracked list (subscriptions (lines ++ line ∷ [])))
          (sym line_counts.tracked)
          (applies.tracked lines line (says line c refl) is.is_world is.tracked
          (sym is.counts.lines));
      counts = subst (AreCounted (lines ++ line ∷ []))
          (sym (line_counts.counts ∙ ap (λ (k : Counts). counted k kind) applies.counts
          ∙ ap (counted old.counts) kind_is))
          (counts-push lines line old is.is_world is.counts);
    }

-- what is shown of a command is shown of a line that says it
pub line-fails : (list : AccessList) (lines : List (List ℕ)) (line : List ℕ) (s : Search)
    (command : Option Request) (fault : SearchFault) → command_in (reading line) ≡ command
    → FailsBy list command s fault → IsSearched list lines s
    → IsFaultAmong list (subscriptions (lines ++ line ∷ [])) fault
line-fails list lines line s command fault e fails is = fails lines line (says line command e) is

-- what is shown in the end
pub IsFound-shown : (list : AccessList) (lines : List (List ℕ)) (s : Search) (f : Findings)
    → IsSearched list lines s → subscription_views f.unreached.items ≡ unreached_of s.tracked
    → f.counts ≡ s.counts → IsFound list lines f
IsFound-shown list lines s f is unreached counts = record {
  unreached = subst (AreUnreached list (subscriptions lines)) (sym unreached)
      (AreUnreached-shown list (subscriptions lines) s.tracked is.tracked);
  counts = subst (AreCounted lines) (sym counts) is.counts;
}

-- ## By the case of a result

pub ok_then : {X E : Type 0} {P : X → Type 0} {Q : Type 0} (r : Result X E) → ((x : X) → P x → Q)
    → IfOk r P → OnOk r Q
ok_then (Ok x) f h = f x h
ok_then (Err e) f h = h

pub if_ok_then : {X E : Type 0} {P Q : X → Type 0} (r : Result X E) → ((x : X) → P x → Q x)
    → IfOk r P → IfOk r Q
if_ok_then (Ok x) f h = f x h
if_ok_then (Err e) f h = h

pub if_err_then : {X E : Type 0} {P Q : E → Type 0} (r : Result X E) → ((e : E) → P e → Q e)
    → IfErr r P → IfErr r Q
if_err_then (Ok x) f h = h
if_err_then (Err e) f h = f e h

-- a fault other than lack of memory is that of the line
pub said-is : (fault : LineFault) (said : Result (Option Request) LineFault)
    → fault ≢ faults.Memory → Fails fault said → said ≡ Err fault
said-is faults.LineTooLong said other is = is
said-is faults.BadJson said other is = is
said-is faults.BadCommand said other is = is
said-is faults.BadField said other is = is
said-is faults.Memory said other is = absurd (other refl)
