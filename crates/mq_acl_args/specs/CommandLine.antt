-- The command line of the program, in the words of `clap`.
use Rattle.std.specs.Prelude.{◌≡◌, ◌≢◌, ◌⊎◌, ◌≤◌, ◌<◌, true, false, if◌then◌else◌, List, [], ◌∷◌}
use Rattle.std.specs.Prelude.{Option, Some, None, option_and_then, option_map, codes, map, ⊤}
use Rattle.std.specs.Prelude.{ℕ, unwrap_or}
use Rattle.std.specs.Option.{option_copied, option_map_or}
use Rattle.std.specs.Str.{bytes_eq}
use Rattle.clap.specs.Words.{App, Row, Rule, Text, Kinds, IsAmong, new_app, with_subcommand}
use Rattle.clap.specs.Words.{all_of, first_of, one_of}
pub use Rattle.clap.specs.Words.{fault_of, subcommand_of}
use Rattle.clap.specs.declared.error.ErrorKind.{ErrorKind}
use Rattle.clap.specs.declared.error.ErrorKind.TheVariants.{DisplayHelp, DisplayVersion}
use Rattle.mq_acl.specs.AccessLists.{rules_named}
use Rattle.mq_acl.specs.declared.access.Direction.{Direction}
use Rattle.mq_acl.specs.declared.rules.Rules.{Rules}
use Rattle.mq_acl.specs.declared.rules.Rules.TheVariants.{Mosquitto}
use Rattle.mq_differences.specs.declared.way.Way.{Way}
use Rattle.mq_differences.specs.declared.way.Way.TheVariants.{Gained, Lost}
use Rattle.mq_args.specs.Arguments.{any_arguments, flag, number_option, option, optional_argument}
use Rattle.mq_args.specs.Arguments.{renamed_option, required_argument}
use Rattle.mq_args.specs.Arguments.{several_arguments, rule_for, with_rules}
use Rattle.mq_args.specs.Numbers.{number_in}
use Rattle.mq_args.specs.declared.usage.UsageFault.{UsageFault}
use Rattle.mq_args.specs.declared.usage.UsageFault.TheVariants.{Help, Usage, Memory}
use Rattle.mq_acl_args.specs.Files.{input_count, script_file}
use Rattle.mq_acl_args.specs.declared.command_line.Subcommand.{Subcommand}
use Rattle.mq_acl_args.specs.declared.request.Request.{Request}
use Rattle.mq_ask.specs.Words.{access_named}
use Rattle.mq_ask.specs.declared.client.Client.{Client}
use Rattle.mq_acl_args.specs.declared.question.Subscriptions.{Subscriptions}
use Rattle.mq_acl_args.specs.declared.question.Subscriptions.TheVariants as about
use Rattle.mq_acl_args.specs.declared.question.Question.{Question}
use Rattle.mq_acl_args.specs.declared.question.Question.TheVariants as asks

abbrev pub app_for : Subcommand → App
app_for subcommand =
    with_rules (new_app subcommand.name.now) (map rule_for subcommand.arguments.now)

-- a command with these subcommands too, in turn
abbrev pub with_apps : App → List App → App
with_apps a [] = a
with_apps a (s ∷ rest) = with_apps (with_subcommand a s.top) rest

-- `--json`
abbrev pub json_flag : Rule
json_flag = flag (codes "json")

-- `--steps N`
abbrev pub steps_option : Rule
steps_option = number_option (codes "steps")

-- `--rules RULES`
abbrev pub rules_option : Rule
rules_option = option (codes "rules")

-- `--user NAME`
abbrev pub user_option : Rule
user_option = option (codes "user")

-- `--access ACCESS`
abbrev pub access_option : Rule
access_option = option (codes "access")

-- `--may ACCESS`
abbrev pub may_option : Rule
may_option = option (codes "may")

-- `--questions QUESTIONS`
abbrev pub questions_option : Rule
questions_option = option (codes "questions")

-- `--only WAY`
abbrev pub only_option : Rule
only_option = option (codes "only")

-- `--except USERS`, once `--only USERS`
abbrev pub except_option : Rule
except_option = renamed_option (codes "except") (codes "only")

-- `--script SCRIPT`
abbrev pub script_option : Rule
script_option = option (codes "script")

-- `--plan PLAN`
abbrev pub plan_option : Rule
plan_option = option (codes "plan")

-- `--any FILTER`
abbrev pub any_option : Rule
any_option = option (codes "any")

-- `--junit JUNIT`
abbrev pub junit_option : Rule
junit_option = option (codes "junit")

-- `compare OLD NEW [--plan PLAN] [--only WAY] [--script SCRIPT] [--steps N] [--rules RULES] [--json]`
abbrev pub compare : App
compare =
    with_rules (new_app (codes "compare"))
    (required_argument (codes "OLD") ∷ json_flag ∷ required_argument (codes "NEW")
    ∷ plan_option ∷ only_option ∷ script_option ∷ steps_option ∷ rules_option ∷ [])

-- `why LIST [CLIENT] [TOPIC] [--user NAME] [--may ACCESS] [--questions QUESTIONS] [--rules RULES] [--json]`
abbrev pub why : App
why =
    with_rules (new_app (codes "why"))
    (required_argument (codes "LIST") ∷ json_flag ∷ optional_argument (codes "CLIENT")
    ∷ optional_argument (codes "TOPIC") ∷ user_option ∷ may_option ∷ questions_option
    ∷ rules_option ∷ [])

-- `lint LIST.. [--steps N] [--rules RULES] [--json]`
abbrev pub lint : App
lint =
    with_rules (new_app (codes "lint"))
    (several_arguments (codes "LIST") ∷ json_flag ∷ steps_option ∷ rules_option ∷ [])

-- `reach LIST [CLIENT] [FILTER] [--any FILTER] [--user NAME] [--script SCRIPT] [--steps N] [--rules RULES] [--json]`
abbrev pub reach : App
reach =
    with_rules (new_app (codes "reach"))
    (required_argument (codes "LIST") ∷ json_flag ∷ optional_argument (codes "CLIENT")
    ∷ optional_argument (codes "FILTER") ∷ any_option ∷ user_option ∷ script_option
    ∷ steps_option ∷ rules_option ∷ [])

-- `who LIST FILTER [--access ACCESS] [--except USERS] [--script SCRIPT] [--steps N] [--rules RULES] [--json]`
abbrev pub who : App
who =
    with_rules (new_app (codes "who"))
    (required_argument (codes "LIST") ∷ json_flag ∷ required_argument (codes "FILTER")
    ∷ access_option ∷ except_option ∷ script_option ∷ steps_option ∷ rules_option ∷ [])

-- `test EXPECTED [LIST..] [--junit JUNIT] [--steps N] [--rules RULES] [--json]`
abbrev pub test : App
test =
    with_rules (new_app (codes "test"))
    (required_argument (codes "EXPECTED") ∷ json_flag ∷ any_arguments (codes "LIST")
    ∷ junit_option ∷ steps_option ∷ rules_option ∷ [])

-- a command that wants a subcommand
abbrev pub wanting : App → App
wanting a = record a { top = record a.top { subcommand_required = true } }

-- a command that has `--version`
abbrev pub versioned : App → App
versioned a = record a { top = record a.top { has_version = true } }

-- `mqroute-acl compare|why|lint|reach|who|test ..`
abbrev pub mqroute_acl : App
mqroute_acl =
    with_subcommand (with_subcommand (with_subcommand
    (with_subcommand (with_subcommand (with_subcommand
    (wanting (versioned (new_app (codes "mqroute-acl")))) compare.top) why.top) lint.top) reach.top) who.top) test.top

-- what a subcommand with these values asks
pub record ClientAsked : Type 0 where
  pub id : Text
  pub user : Option Text

pub data Asked : Type 0 where
  Compare : (old new : Text) (only : Option Way) (script : Option Text) → Asked
  Through : (old new plan : Text) (only : Option Way) → Asked
  Why : (file : Text) (client : ClientAsked) (topic : Text) (may : Option Direction) → Asked
  WhyEach : (file questions : Text) → Asked
  Lint : (files : List Text) → Asked
  Reach : (file : Text) (client : ClientAsked) (filter : Text) → Asked
  ReachAny : (file : Text) (user : Option Text) (wanted : Text) → Asked
  ReachAll : (file script : Text) → Asked
  Who : (file wanted : Text) (access : Option Direction) (except script : Option Text) → Asked
  Test : (expected : Text) (lists : List Text) (junit : Option Text) → Asked

abbrev pub way_named : Text → Option Way
way_named word =
    if bytes_eq word (codes "gained") then Some Gained
    else (if bytes_eq word (codes "lost") then Some Lost else None)

-- whether these values ask of one way alone; none where the word for it is unknown
abbrev pub way_asked : List Row → Option (Option Way)
way_asked rows =
    option_map_or (λ word. option_map Some (way_named word)) (first_of (codes "only") rows)
    (Some None)

abbrev pub compare_asked : (old new : Option Text) → Option (Option Way) → (script : Option Text)
    → Option Asked
compare_asked (Some old) (Some new) (Some only) script = Some (Compare old new only script)
compare_asked old new only script = None

-- through a plan: no script stands beside it
abbrev pub through_asked : (old new : Option Text) → Option (Option Way) → (script : Option Text)
    → (plan : Text) → Option Asked
through_asked (Some old) (Some new) (Some only) None plan = Some (Through old new plan only)
through_asked old new only script plan = None

-- of two lists, or of two lists through a plan
abbrev pub compared_asked : (old new : Option Text) → Option (Option Way)
    → (script plan : Option Text) → Option Asked
compared_asked old new only script None = compare_asked old new only script
compared_asked old new only script (Some plan) = through_asked old new only script plan

abbrev pub compare_asked_by : List Row → Option Asked
compare_asked_by rows =
    compared_asked (first_of (codes "OLD") rows) (first_of (codes "NEW") rows) (way_asked rows)
    (first_of (codes "script") rows) (first_of (codes "plan") rows)

abbrev pub lint_asked : (files : Option (List Text)) → Option Asked
lint_asked files = option_map Lint files

-- whether the option with this id asks of reading or of writing alone; none where the word for it is unknown
abbrev pub access_asked : (id : Text) → List Row → Option (Option Direction)
access_asked id rows =
    option_map_or (λ word. option_map Some (access_named word)) (first_of id rows) (Some None)

-- of one client and topic
abbrev pub topic_asked : (file id user topic : Option Text) → (may : Option (Option Direction))
    → Option Asked
topic_asked (Some file) (Some id) user (Some topic) (Some may) =
    Some (Why file (record { id = id; user = user }) topic may)
topic_asked file id user topic may = None

-- of each question of a file: neither client nor user name nor topic nor access stands beside it
abbrev pub each_asked : (file id user topic may : Option Text) → (questions : Text) → Option Asked
each_asked (Some file) None None None None questions = Some (WhyEach file questions)
each_asked file id user topic may questions = None

-- of one subscription
abbrev pub one_asked : (file id filter user : Option Text) → Option Asked
one_asked (Some file) (Some id) (Some filter) user =
    Some (Reach file (record { id = id; user = user }) filter)
one_asked file id filter user = None

-- of those of a script: neither client nor filter nor user name stands beside it
abbrev pub all_asked : (file id filter user : Option Text) → (script : Text) → Option Asked
all_asked (Some file) None None None script = Some (ReachAll file script)
all_asked file id filter user script = None

-- of clients with any id: neither client nor filter nor script stands beside it
abbrev pub any_asked : (file id filter user script : Option Text) → (wanted : Text) → Option Asked
any_asked (Some file) None None user None wanted = Some (ReachAny file user wanted)
any_asked file id filter user script wanted = None

-- of one subscription, or of those of a script
abbrev pub some_asked : (file id filter user script : Option Text) → Option Asked
some_asked file id filter user None = one_asked file id filter user
some_asked file id filter user (Some script) = all_asked file id filter user script

abbrev pub reach_asked : (file id filter user script any : Option Text) → Option Asked
reach_asked file id filter user script None = some_asked file id filter user script
reach_asked file id filter user script (Some wanted) = any_asked file id filter user script wanted

abbrev pub why_asked : List Row → (questions : Option Text) → Option Asked
why_asked rows None =
    topic_asked (first_of (codes "LIST") rows) (first_of (codes "CLIENT") rows)
    (first_of (codes "user") rows) (first_of (codes "TOPIC") rows)
    (access_asked (codes "may") rows)
why_asked rows (Some questions) =
    each_asked (first_of (codes "LIST") rows) (first_of (codes "CLIENT") rows)
    (first_of (codes "user") rows) (first_of (codes "TOPIC") rows) (first_of (codes "may") rows)
    questions

abbrev pub why_asked_by : List Row → Option Asked
why_asked_by rows = why_asked rows (first_of (codes "questions") rows)

abbrev pub reach_asked_by : List Row → Option Asked
reach_asked_by rows =
    reach_asked (first_of (codes "LIST") rows) (first_of (codes "CLIENT") rows)
    (first_of (codes "FILTER") rows) (first_of (codes "user") rows) (first_of (codes "script") rows)
    (first_of (codes "any") rows)

abbrev pub who_asked : (file wanted : Option Text) → Option (Option Direction)
    → (except script : Option Text) → Option Asked
who_asked (Some file) (Some wanted) (Some access) except script =
    Some (Who file wanted access except script)
who_asked file wanted access except script = None

abbrev pub who_asked_by : List Row → Option Asked
who_asked_by rows =
    who_asked (first_of (codes "LIST") rows) (first_of (codes "FILTER") rows)
    (access_asked (codes "access") rows) (first_of (codes "except") rows)
    (first_of (codes "script") rows)

-- of a file of expectations, and the lists that are given, if some are
abbrev pub test_asked : (expected : Option Text) → (lists : Option (List Text))
    → (junit : Option Text) → Option Asked
test_asked (Some expected) lists junit = Some (Test expected (unwrap_or lists []) junit)
test_asked None lists junit = None

abbrev pub test_asked_by : List Row → Option Asked
test_asked_by rows =
    test_asked (first_of (codes "EXPECTED") rows) (all_of (codes "LIST") rows)
    (first_of (codes "junit") rows)

abbrev pub asked : Text → List Row → Option Asked
asked name rows =
    if bytes_eq name (codes "compare")
    then compare_asked_by rows
    else (if bytes_eq name (codes "why") then why_asked_by rows
    else (if bytes_eq name (codes "lint") then lint_asked (all_of (codes "LIST") rows)
    else (if bytes_eq name (codes "reach") then reach_asked_by rows
    else (if bytes_eq name (codes "who") then who_asked_by rows
    else (if bytes_eq name (codes "test") then test_asked_by rows
    else None)))))

-- the rules in these values, or mosquitto's where none are; none where the word for them is unknown
abbrev pub rules_asked : List Row → Option Rules
rules_asked rows = option_map_or rules_named (first_of (codes "rules") rows) (Some Mosquitto)

abbrev pub rules_given : List Row → Rules
rules_given rows = unwrap_or (rules_asked rows) Mosquitto

-- what the words ask, if they ask something by known rules
abbrev pub asked_by_known : Option Rules → Option Asked → Option Asked
asked_by_known (Some rules) asked = asked
asked_by_known None asked = None

abbrev pub asked_by : Option (Text × List Row) → Option Asked
asked_by subcommand =
    option_and_then (λ met. asked_by_known (rules_asked met.1) (asked met.0 met.1)) subcommand

abbrev pub client_view : Client → ClientAsked
client_view client = record { id = client.id.now; user = option_copied client.user }

-- what is asked of this file about these
abbrev pub reach_view : Text → Subscriptions → Asked
reach_view file (about.Of client filter) = Reach file (client_view client) filter.now
reach_view file (about.OfAny user wanted) = ReachAny file (option_copied user) wanted.now
reach_view file (about.In script) = ReachAll file script.now

abbrev pub question_view : Question → Asked
question_view (asks.Compare q) = Compare q.old.now q.new.now q.only (option_copied q.script)
question_view (asks.Through q) = Through q.old.now q.new.now q.plan.now q.only
question_view (asks.Why q) = Why q.file.now (client_view q.client) q.topic.now q.may
question_view (asks.WhyEach q) = WhyEach q.file.now q.questions.now
question_view (asks.Lint files) = Lint (map (λ file. file.now) files.items)
question_view (asks.Reach q) = reach_view q.file.now q.subscriptions
question_view (asks.Who q) =
    Who q.file.now q.wanted.now q.selection.access (option_copied q.selection.only)
    (option_copied q.script)
question_view (asks.Test q) =
    Test q.expected.now (map (λ file. file.now) q.lists.items) (option_copied q.junit)

-- the values of the subcommand
abbrev pub values_of : Option (Text × List Row) → List Row
values_of None = []
values_of (Some met) = met.1

-- how many steps may be taken where nothing is said of them
unfoldable pub usual_steps : ℕ
usual_steps = 200000000

abbrev pub steps_or_usual : Option ℕ → ℕ
steps_or_usual (Some steps) = steps
steps_or_usual None = usual_steps

-- how many steps may be taken by these values
abbrev pub steps_given : List Row → ℕ
steps_given rows = steps_or_usual (option_and_then number_in (one_of (codes "steps") rows))

-- the request is what a subcommand with its values asks
pub record IsAskedBy (subcommand : Option (Text × List Row)) (request : Request) : Type 0 where
  pub question : asked_by subcommand ≡ Some (question_view request.question)
  pub json : one_of (codes "json") (values_of subcommand) ≡ Some (codes "true")
      → request.options.json ≡ true
  pub no_json : one_of (codes "json") (values_of subcommand) ≡ Some (codes "false")
      → request.options.json ≡ false
  pub steps : request.options.steps ≡ steps_given (values_of subcommand)
  pub rules : request.options.rules ≡ rules_given (values_of subcommand)

-- the request is what a subcommand with its values asks, and where there is none it asks nothing
abbrev pub GivesAsked : Option (Text × List Row) → Option Request → Type 0
GivesAsked subcommand (Some request) = IsAskedBy subcommand request
GivesAsked subcommand None = asked_by subcommand ≡ None

-- the files that a question names
abbrev pub files_of : Asked → List Text
files_of (Compare old new only script) = old ∷ new ∷ script_file script
files_of (Through old new plan only) = old ∷ new ∷ plan ∷ []
files_of (Why file client topic may) = file ∷ []
files_of (WhyEach file questions) = file ∷ questions ∷ []
files_of (Lint files) = files
files_of (Reach file client filter) = file ∷ []
files_of (ReachAny file user wanted) = file ∷ []
files_of (ReachAll file script) = file ∷ script ∷ []
files_of (Who file wanted access except script) = file ∷ script_file script
files_of (Test expected lists junit) = expected ∷ lists

-- no more than one of them is standard input
abbrev pub ReadsInputOnce : Asked → Type 0
ReadsInputOnce question = input_count (files_of question) ≤ 1

-- the request is what a subcommand with its values asks, and can be answered
pub record IsGivenBy (subcommand : Option (Text × List Row)) (request : Request) : Type 0 where
  pub asked : IsAskedBy subcommand request
  pub once : ReadsInputOnce (question_view request.question)

-- and so it is of these words
abbrev pub AreGiven : List Text → Request → Type 0
AreGiven words request = IsGivenBy (subcommand_of mqroute_acl words) request

-- nothing is asked, or standard input would be read twice
abbrev pub CanNotBeAsked : Option Asked → Type 0
CanNotBeAsked None = ⊤
CanNotBeAsked (Some question) = 1 < input_count (files_of question)

-- why the words are refused, unless memory ran out: help or the version is asked for, they have a fault of some kind, or
-- what they ask can't be asked
abbrev pub IsFaultOf : List Text → Kinds → UsageFault → Type 0
IsFaultOf words kinds (Help text) = IsAmong DisplayHelp kinds ⊎ IsAmong DisplayVersion kinds
IsFaultOf words kinds (Usage text) =
    ((k : ErrorKind) × (k ≢ DisplayHelp) × (k ≢ DisplayVersion) × IsAmong k kinds)
    ⊎ CanNotBeAsked (asked_by (subcommand_of mqroute_acl words))
IsFaultOf words kinds Memory = Unit {0}
