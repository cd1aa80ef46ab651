-- What the values of the code stand for.
use Rattle.std.specs.Prelude.{◌≡◌, Option, Some, None, Result, Ok, Err}
use Rattle.std.specs.Option.{option_copied}
use Rattle.mq_acl.specs.Views.{access_view}
use Rattle.mq_expect.specs.Expectations as lines
use Rattle.mq_expect.specs.declared.expectation.Claim.{Claim}
use Rattle.mq_expect.specs.declared.expectation.Expectation.{Expectation}
use Rattle.mq_expect.specs.declared.expectation.Expectation.TheVariants as said
use Rattle.mq_expect.specs.declared.expectation.Whom.{Whom}
use Rattle.mq_expect.specs.declared.expectation.Whom.TheVariants as whom
use Rattle.mq_expect.specs.declared.fault.ExpectationKind.{ExpectationKind}
use Rattle.mq_expect.specs.declared.fault.ExpectationKind.TheVariants as kinds

abbrev pub whom_view : Whom → lines.Whom
whom_view whom.Anyone = lines.Anyone
whom_view whom.Anonymous = lines.Anonymous
whom_view whom.Others = lines.Others
whom_view (whom.User name) = lines.User name.now

abbrev pub claim_view : Claim → lines.Claim
claim_view claim = record {
  whom = whom_view claim.whom;
  holds = claim.holds;
  access = access_view claim.access;
  topics = claim.filter;
  except = option_copied claim.except;
}

abbrev pub entry_view : Expectation → lines.Entry
entry_view (said.List file) = lines.InList file.now
entry_view (said.AtMost file) = lines.AtMost file.now
entry_view (said.AtLeast file) = lines.AtLeast file.now
entry_view (said.Claim claim) = lines.Claims (claim_view claim)

-- a line that is skipped says nothing
abbrev pub said_view : Option Expectation → lines.Entry
said_view None = lines.Skipped
said_view (Some expectation) = entry_view expectation

-- what a step says of a line where it may want memory
abbrev pub Fails : ExpectationKind → Result lines.Entry ExpectationKind → Type 0
Fails kinds.Memory answer = Unit {0}
Fails kind answer = answer ≡ Err kind

abbrev pub Answers : Result (Option Expectation) ExpectationKind
    → Result lines.Entry ExpectationKind → Type 0
Answers (Ok said) answer = answer ≡ Ok (said_view said)
Answers (Err kind) answer = Fails kind answer
