-- Whatever values an object had, once all of its members are set it is the line's.
use Rattle.std.proofs.Common.{◌≡◌, ℕ, List, [], ◌∷◌, Bool, Option, Some, None, is_some, codes, ◌==◌}
use Rattle.std.proofs.Common.{length, ◌↔◌, IsTrue, Result, Ok, Err, OnOk, true, false, true≢false}
use Rattle.std.proofs.Common.{arith, refl, sym, ap, ◌∙◌}
use Rattle.std.proofs.lemmas.Bool.Decides.{Decides-eqb}
use Rattle.std.proofs.lemmas.Result.{on_ok_weaker}
use Rattle.serde_json.specs.Data.{Data, null, string, boolean, array, Members, no_members, member}
use Rattle.serde_json.specs.Data.{put}
use Rattle.mq_world.specs.World.{Copy, Group}
use Rattle.mq_world.specs.declared.answer.Outcome.TheVariants.{Reason}
use Rattle.mq_jsonl.specs.Printed.{put_if, whole_data, numbers_data, text_if, whole_if, numbers_if}
use Rattle.mq_jsonl.specs.Printed.{Report, copy_members, closing_members, report_members}
use Rattle.mq_jsonl.specs.Objects.{names_of, values_of, IsFor, parts_of, copy_names, reason_names}
use Rattle.mq_jsonl.specs.Objects.{Parts, report_names}
use Rattle.mq_jsonl.specs.Shared.{behind_members, behind_names}
use Rattle.std.specs.Option.{option_map}

-- ## Members as names and values

abbrev first : List Data → Data
first [] = null
first (d ∷ ds) = d

abbrev others : List Data → List Data
others [] = []
others (d ∷ ds) = ds

abbrev named : List (List ℕ) → List Data → Members
named [] ds = no_members
named (k ∷ ks) ds = member k (first ds) (named ks (others ds))

named_self : (ms : Members) → named (names_of ms) (values_of ms) ≡ ms
named_self no_members = refl
named_self (member k d ms) = ap (member k d) (named_self ms)

written : (ms : Members) (names : List (List ℕ)) (ds : List Data) → names_of ms ≡ names
    → values_of ms ≡ ds → ms ≡ named names ds
written ms names ds same_names same_values = sym (named_self ms)
    ∙ ap (λ ks. named ks (values_of ms)) same_names ∙ ap (named names) same_values

-- an object that had members, and was refilled
had_names : (names : List (List ℕ)) (old : Members) (b : Bool) → IsFor names old
    → IsTrue b ↔ (names_of old ≡ []) → b ≡ false
    → names_of old ≡ names
had_names names old b fits empty some = fits (λ none. true≢false (sym (empty.1 none) ∙ some))

-- members that fit these names, and are some, keep them and get these values
pub record IsRefill {A E : Type 0} (r : Result A E) (names : List (List ℕ)) (ds : List Data)
    (old new : Members) (b : Bool) : Type 0 where
  pub fits : IsFor names old
  pub empty : IsTrue b ↔ (names_of old ≡ [])
  pub some : b ≡ false
  pub same_names : OnOk r (names_of new ≡ names_of old)
  pub values : OnOk r (values_of new ≡ ds)

refilled_as : {A E : Type 0} (r : Result A E) (names : List (List ℕ)) (ds : List Data)
    (old new : Members) (b : Bool)
    → IsRefill r names ds old new b → OnOk r (new ≡ named names ds)
refilled_as (Ok x) names ds old new b is =
    written new names ds (is.same_names ∙ had_names names old b is.fits is.empty is.some) is.values
refilled_as (Err e) names ds old new b is = tt

-- what forgets the values of such names sets all that there is
settled : (set : Members → Members) (names : List (List ℕ)) (ms : Members)
    → ((ds : List Data) → set (named names ds) ≡ set no_members) → IsFor names ms
    → set ms ≡ set no_members
settled set names no_members forgets fits = refl
settled set names (member k d ms) forgets fits =
    let is = fits (λ none. cc) in
    ap set (sym (named_self (member k d ms)) ∙ ap (λ ks. named ks (values_of (member k d ms))) is)
    ∙ forgets (values_of (member k d ms))

-- ## A copy

abbrev pub set_copy : ℕ → Copy → Members → Members
set_copy k c ms =
    put_if (codes "share") (text_if (option_map (λ group. group.share) c.group)) (
    put_if (codes "filter") (text_if (option_map (λ group. group.filter) c.group)) (
    put_if (codes "expiry") (whole_if c.expiry) (
    put_if (codes "ids") (numbers_if c.identifiers) (
    put (codes "topic") (string c.topic) (
    put (codes "retain") (boolean c.retain) (
    put (codes "qos") (whole_data c.qos) (
    put (codes "payload") (string c.payload) (
    put (codes "line") (whole_data k) (
    put (codes "client") (string c.client) ms)))))))))

abbrev pub copy : (client topic payload : List ℕ) (qos : ℕ) (retain : Bool) (expiry : Option ℕ)
    (ids : List ℕ) (group : Option Group) → Copy
copy client topic payload qos retain expiry ids group = record {
  client = client;
  topic = topic;
  payload = payload;
  qos = qos;
  retain = retain;
  expiry = expiry;
  identifiers = ids;
  group = group;
}

forgets_copy : (k : ℕ) (client topic payload : List ℕ) (qos : ℕ) (retain : Bool) (expiry : Option ℕ)
    (ids : List ℕ) (group : Option Group) (ds : List Data)
    → let c = copy client topic payload qos retain expiry ids group in
    set_copy k c (named (copy_names (parts_of c)) ds) ≡ set_copy k c no_members
unfolding copy_names
forgets_copy k client topic payload qos retain None [] None ds = refl
forgets_copy k client topic payload qos retain None [] (Some g) ds = refl
forgets_copy k client topic payload qos retain None (n ∷ ns) None ds = refl
forgets_copy k client topic payload qos retain None (n ∷ ns) (Some g) ds = refl
forgets_copy k client topic payload qos retain (Some x) [] None ds = refl
forgets_copy k client topic payload qos retain (Some x) [] (Some g) ds = refl
forgets_copy k client topic payload qos retain (Some x) (n ∷ ns) None ds = refl
forgets_copy k client topic payload qos retain (Some x) (n ∷ ns) (Some g) ds = refl

names_copy : (k : ℕ) (client topic payload : List ℕ) (qos : ℕ) (retain : Bool) (expiry : Option ℕ)
    (ids : List ℕ) (group : Option Group)
    → let c = copy client topic payload qos retain expiry ids group in
    names_of (set_copy k c no_members) ≡ copy_names (parts_of c)
unfolding copy_names
names_copy k client topic payload qos retain None [] None = refl
names_copy k client topic payload qos retain None [] (Some g) = refl
names_copy k client topic payload qos retain None (n ∷ ns) None = refl
names_copy k client topic payload qos retain None (n ∷ ns) (Some g) = refl
names_copy k client topic payload qos retain (Some x) [] None = refl
names_copy k client topic payload qos retain (Some x) [] (Some g) = refl
names_copy k client topic payload qos retain (Some x) (n ∷ ns) None = refl
names_copy k client topic payload qos retain (Some x) (n ∷ ns) (Some g) = refl

-- once all is set, an object that fits a copy's names is its line, whatever values it had
pub copy_again : (k : ℕ) (c : Copy) (ms : Members) → IsFor (copy_names (parts_of c)) ms
    → set_copy k c ms ≡ copy_members k c
unfolding copy_members
copy_again k c ms fits =
    settled (set_copy k c) (copy_names (parts_of c)) ms
    (forgets_copy k c.client c.topic c.payload c.qos c.retain c.expiry c.identifiers c.group)
    fits

-- a copy's line fits the copy's names
pub copy_fits : (k : ℕ) (c : Copy) (ms : Members) → ms ≡ copy_members k c
    → IsFor (copy_names (parts_of c)) ms
unfolding copy_members
copy_fits k c ms is = λ some. ap names_of is
    ∙ names_copy k c.client c.topic c.payload c.qos c.retain c.expiry c.identifiers c.group

-- how many members an object has that is refilled with the values of a copy with these parts
pub copy_count : (c : Copy) (p : Parts) (old : Members) (b : Bool)
    → IsFor (copy_names (parts_of c)) old → IsTrue b ↔ (names_of old ≡ []) → b ≡ false
    → parts_of c ≡ p
    → length (names_of old) ≡ length (copy_names p)
copy_count c p old b fits empty some same =
    ap length (had_names _ old b fits empty some ∙ ap copy_names same)

abbrev value_if : Option Data → List Data → List Data
value_if None ds = ds
value_if (Some d) ds = d ∷ ds

-- the values of a copy's line, in the order of their names
abbrev pub copy_values : ℕ → Copy → List Data
copy_values k c =
    string c.client ∷ value_if (whole_if c.expiry) (
    value_if (text_if (option_map (λ group. group.filter) c.group)) (
    value_if (numbers_if c.identifiers) (
    whole_data k ∷ string c.payload ∷ whole_data c.qos ∷ boolean c.retain
    ∷ value_if (text_if (option_map (λ group. group.share) c.group)) (
    string c.topic ∷ []))))

named_copy : (k : ℕ) (client topic payload : List ℕ) (qos : ℕ) (retain : Bool) (expiry : Option ℕ)
    (ids : List ℕ) (group : Option Group)
    → let c = copy client topic payload qos retain expiry ids group in
    named (copy_names (parts_of c)) (copy_values k c) ≡ copy_members k c
unfolding copy_names copy_members
named_copy k client topic payload qos retain None [] None = refl
named_copy k client topic payload qos retain None [] (Some g) = refl
named_copy k client topic payload qos retain None (n ∷ ns) None = refl
named_copy k client topic payload qos retain None (n ∷ ns) (Some g) = refl
named_copy k client topic payload qos retain (Some x) [] None = refl
named_copy k client topic payload qos retain (Some x) [] (Some g) = refl
named_copy k client topic payload qos retain (Some x) (n ∷ ns) None = refl
named_copy k client topic payload qos retain (Some x) (n ∷ ns) (Some g) = refl

-- an empty list of numbers isn't printed
pub no_numbers : (ns : List ℕ) → (length ns == 0) ≡ true → numbers_if ns ≡ None
no_numbers [] none = refl
no_numbers (n ∷ ns) none =
    absurd (let zero : length (n ∷ ns) ≡ 0 = (Decides-eqb (length (n ∷ ns)) 0).0 none in
    omega (arith, zero))

-- a list of some numbers is printed as an array
pub some_numbers : (ns : List ℕ) → (length ns == 0) ≡ false
    → numbers_if ns ≡ Some (array (numbers_data ns))
some_numbers [] some = absurd (true≢false some)
some_numbers (n ∷ ns) some = refl

-- an object that is refilled with a copy's values is its line
pub copy_refilled : {A E : Type 0} (r : Result A E) (k : ℕ) (c : Copy) (ds : List Data)
    (old new : Members) (b : Bool)
    → IsRefill r (copy_names (parts_of c)) ds old new b → ds ≡ copy_values k c
    → OnOk r (new ≡ copy_members k c)
copy_refilled r k c ds old new b refill same =
    let named_so = named_copy k c.client c.topic c.payload c.qos c.retain c.expiry c.identifiers
    c.group in
    on_ok_weaker r (λ e. e ∙ ap (named (copy_names (parts_of c))) same ∙ named_so)
    (refilled_as r (copy_names (parts_of c)) ds old new b refill)

-- ## The members behind a copy's payload

abbrev pub set_behind : Copy → Members → Members
set_behind c ms =
    put (codes "topic") (string c.topic) (
    put (codes "retain") (boolean c.retain) (
    put (codes "qos") (whole_data c.qos) ms))

forgets_behind : (c : Copy) (ds : List Data)
    → set_behind c (named behind_names ds) ≡ set_behind c no_members
unfolding behind_names
forgets_behind c ds = refl

-- once all is set, an object that fits the names of these members has them
pub behind_again : (c : Copy) (ms : Members) → IsFor behind_names ms
    → set_behind c ms ≡ behind_members c
unfolding behind_members
behind_again c ms fits = settled (set_behind c) behind_names ms (forgets_behind c) fits

-- an object that is refilled with their values has them
pub behind_refilled : {A E : Type 0} (r : Result A E) (c : Copy) (old new : Members) (b : Bool)
    → IsRefill r behind_names (whole_data c.qos ∷ boolean c.retain ∷ string c.topic ∷ []) old new b
    → OnOk r (new ≡ behind_members c)
unfolding behind_names behind_members
behind_refilled r c old new b refill =
    refilled_as r behind_names (whole_data c.qos ∷ boolean c.retain ∷ string c.topic ∷ []) old new b
    refill

-- they fit their names
pub behind_fits : (c : Copy) (ms : Members) → ms ≡ behind_members c → IsFor behind_names ms
unfolding behind_members behind_names
behind_fits c ms is = λ some. ap names_of is

-- ## A closing line with a reason

abbrev pub set_reason : ℕ → ℕ → Members → Members
set_reason k reason ms = put (codes "reason") (whole_data reason)
    (put (codes "line") (whole_data k) ms)

forgets_reason : (k reason : ℕ) (ds : List Data)
    → set_reason k reason (named reason_names ds) ≡ set_reason k reason no_members
unfolding reason_names
forgets_reason k reason ds = refl

-- once all is set, an object that fits a reason's names is its closing line
pub reason_again : (k reason : ℕ) (ms : Members) → IsFor reason_names ms
    → set_reason k reason ms ≡ closing_members k (Reason reason)
unfolding closing_members
reason_again k reason ms fits = settled (set_reason k reason) reason_names ms
    (forgets_reason k reason) fits

-- an object that is refilled with a reason's values is its closing line
pub reason_refilled : {A E : Type 0} (r : Result A E) (k reason : ℕ) (old new : Members) (b : Bool)
    → IsRefill r reason_names (whole_data k ∷ whole_data reason ∷ []) old new b
    → OnOk r (new ≡ closing_members k (Reason reason))
unfolding reason_names closing_members
reason_refilled r k reason old new b refill =
    refilled_as r reason_names (whole_data k ∷ whole_data reason ∷ []) old new b refill

-- a reason's closing line fits its names
pub reason_fits : (k reason : ℕ) (ms : Members) → ms ≡ closing_members k (Reason reason)
    → IsFor reason_names ms
unfolding closing_members reason_names
reason_fits k reason ms is = λ some. ap names_of is

-- ## A refusal or a fault

abbrev pub set_report : ℕ → Report → Members → Members
set_report k r ms =
    put_if (codes "acl_line") (whole_if r.acl_line) (
    put (codes "refused") (string r.name) (
    put (codes "line") (whole_data k) (
    put (codes "code") (whole_data r.code) ms)))

abbrev report : (code : ℕ) (name : List ℕ) (acl_line : Option ℕ) → Report
report code name acl_line = record { code = code; name = name; acl_line = acl_line }

forgets_report : (k code : ℕ) (name : List ℕ) (acl_line : Option ℕ) (ds : List Data)
    → let r = report code name acl_line in
    set_report k r (named (report_names (is_some acl_line)) ds) ≡ set_report k r no_members
unfolding report_names
forgets_report k code name None ds = refl
forgets_report k code name (Some n) ds = refl

names_report : (k code : ℕ) (name : List ℕ) (acl_line : Option ℕ)
    → names_of (set_report k (report code name acl_line) no_members)
    ≡ report_names (is_some acl_line)
unfolding report_names
names_report k code name None = refl
names_report k code name (Some n) = refl

-- once all is set, an object that fits a report's names is its line
pub report_again : (k : ℕ) (r : Report) (ms : Members)
    → IsFor (report_names (is_some r.acl_line)) ms → set_report k r ms ≡ report_members k r
unfolding report_members
report_again k r ms fits = settled (set_report k r) (report_names (is_some r.acl_line)) ms
    (forgets_report k r.code r.name r.acl_line) fits

-- a report without the line of an access list
pub report_count : (acl_line : Option ℕ) (old : Members) (b : Bool)
    → IsFor (report_names (is_some acl_line)) old
    → IsTrue b ↔ (names_of old ≡ []) → b ≡ false → is_some acl_line ≡ false
    → length (names_of old) ≡ 3
unfolding report_names
report_count acl_line old b fits empty some none =
    ap length (had_names _ old b fits empty some ∙ ap report_names none)

-- an object refilled with the values of a report without an access list's line is its line
pub report_refilled : {A E : Type 0} (r : Result A E) (k : ℕ) (report : Report) (old new : Members)
    (b : Bool)
    → IsRefill r (report_names (is_some report.acl_line))
    (whole_data report.code ∷ whole_data k ∷ string report.name ∷ []) old new b
    → is_some report.acl_line ≡ false → OnOk r (new ≡ report_members k report)
unfolding report_names report_members
report_refilled r k report old new b refill none = by_line report.acl_line refill none
  where
    by_line : (acl_line : Option ℕ) → IsRefill r (report_names (is_some acl_line))
        (whole_data report.code ∷ whole_data k ∷ string report.name ∷ []) old new b
        → is_some acl_line ≡ false
        → OnOk r (new ≡ set_report k
        (record { code = report.code; name = report.name; acl_line = acl_line }) no_members)
    by_line None refill_none none =
        refilled_as r (report_names false)
        (whole_data report.code ∷ whole_data k ∷ string report.name ∷ []) old new b refill_none
    by_line (Some n) refill_some none = absurd (true≢false none)

-- a report's line fits the report's names
pub report_fits : (k : ℕ) (r : Report) (ms : Members) → ms ≡ report_members k r
    → IsFor (report_names (is_some r.acl_line)) ms
unfolding report_members
report_fits k r ms is = λ some. ap names_of is ∙ names_report k r.code r.name r.acl_line
