-- How long a session keeps a subscription, command by command.
use Rattle.std.proofs.Common.{◌≡◌, ℕ, ◌+◌, Bool, true, false, cond, ◌&&◌, ◌||◌, not, List, [], ◌∷◌}
use Rattle.std.proofs.Common.{map, Option, is_some, if◌then◌else◌, refl, sym, ◌∙◌, ap}
use Rattle.std.specs.List.{filter}
use Rattle.std.proofs.Math.Bool.{and-false}
use Rattle.std.proofs.lemmas.Bool.{and_parts, not-false, not-true}
use Rattle.mq_topic.specs.Texts.{filter_part, is_shared, is_subscription, share_of}
use Rattle.mq_world.specs.After.{after, kept_stamp, next, without_client}
use Rattle.mq_world.specs.Groups.{served_by}
use Rattle.mq_world.specs.Lists.{Text, same_text, with_row}
use Rattle.mq_world.specs.Refusals.{first_refusal, is_client_id, is_user_name, refusal}
use Rattle.mq_world.specs.Sessions.{has_ended, is_among, is_connected, left_by, outlives, resumes}
use Rattle.mq_world.specs.World.{Advance, Connect, Disconnect, Publish, Request, Row, SetAcl, Stat}
use Rattle.mq_world.specs.World.{Subscribe, Subscription, SubscriptionOptions, Unsubscribe, World}
use Rattle.mq_world.specs.World.{Session, has_id, has_key, row_cmp, same_key}
use Rattle.mq_world.specs.World.{subscription_of}
use Rattle.mq_world.specs.declared.refusal.Refusal.{Refusal}
use Rattle.mq_reach.specs.Subscriptions.{is_taken, makes, stays}
use Rattle.mq_reach.specs.Subscriptions as spec
use Rattle.mq_reach.proofs.KeyLemmas.{any-kept, any-restamped, has_row, has_row-unsubscribed, has_row-with, has_row-without, is_there, key-is, key_of, key_parts, made-is, there-is}

-- ## Which commands are taken

pub next-refused : (w : World) (request : Request) → is_taken w request ≡ false
    → next w request ≡ w
unfolding next
next-refused w request h =
    ap (λ b. cond b w (after w request)) (not-false (is_some (refusal w request)) h)

pub next-taken : (w : World) (request : Request) → is_taken w request ≡ true
    → next w request ≡ after w request
unfolding next
next-taken w request h =
    ap (λ b. cond b w (after w request)) (not-true (is_some (refusal w request)) h)

one_test : (r : Refusal) (a : Bool) → not (is_some (first_refusal ((not a, r) ∷ []))) ≡ a
one_test r true = refl
one_test r false = refl

two_tests : (r s : Refusal) (a b : Bool)
    → not (is_some (first_refusal ((not a, r) ∷ (not b, s) ∷ []))) ≡ (a && b)
two_tests r s true true = refl
two_tests r s true false = refl
two_tests r s false b = refl

three_tests : (r s t : Refusal) (a b c : Bool)
    → not (is_some (first_refusal ((not a, r) ∷ (not b, s) ∷ (not c, t) ∷ []))) ≡ (a && b && c)
three_tests r s t true true true = refl
three_tests r s t true true false = refl
three_tests r s t true false c = refl
three_tests r s t false b c = refl

four_tests : (r s t u : Refusal) (a b c d : Bool)
    → not (is_some (first_refusal ((not a, r) ∷ (not b, s) ∷ (not c, t) ∷ (d, u) ∷ [])))
    ≡ (a && b && c && not d)
four_tests r s t u true true true true = refl
four_tests r s t u true true true false = refl
four_tests r s t u true true false d = refl
four_tests r s t u true false c d = refl
four_tests r s t u false b c d = refl

pub taken-connect : (w : World) (id : Text) (user : Option Text) (clean : Bool) (interval : ℕ)
    → is_taken w (Connect id user clean interval) ≡ (is_client_id id && is_user_name user)
unfolding refusal
taken-connect w id user clean interval =
    two_tests _ _ (is_client_id id) (is_user_name user)

pub taken-disconnect : (w : World) (id : Text)
    → is_taken w (Disconnect id) ≡ (is_client_id id && is_connected w.sessions id)
unfolding refusal
taken-disconnect w id = two_tests _ _ (is_client_id id) (is_connected w.sessions id)

pub taken-subscribe : (w : World) (id text : Text) (options : SubscriptionOptions)
    → is_taken w (Subscribe id text options)
    ≡ (is_client_id id && is_connected w.sessions id && is_subscription text
    && not (is_shared text && options.no_local))
unfolding refusal
taken-subscribe w id text options =
    four_tests _ _ _ _ (is_client_id id) (is_connected w.sessions id) (is_subscription text)
    (is_shared text && options.no_local)

pub taken-unsubscribe : (w : World) (id text : Text)
    → is_taken w (Unsubscribe id text)
    ≡ (is_client_id id && is_connected w.sessions id && is_subscription text)
unfolding refusal
taken-unsubscribe w id text =
    three_tests _ _ _ (is_client_id id) (is_connected w.sessions id) (is_subscription text)

pub subscribe-valid : (w : World) (id text : Text) (options : SubscriptionOptions)
    → is_taken w (Subscribe id text options) ≡ true → is_subscription text ≡ true
subscribe-valid w id text options h =
    let tests = and_parts (is_client_id id && is_connected w.sessions id && is_subscription text)
    (not (is_shared text && options.no_local)) (sym (taken-subscribe w id text options) ∙ h) in
    (and_parts (is_client_id id && is_connected w.sessions id) (is_subscription text) tests.0).1

unsubscribe-valid : (w : World) (id text : Text) → is_taken w (Unsubscribe id text) ≡ true
    → is_subscription text ≡ true
unsubscribe-valid w id text h =
    (and_parts (is_client_id id && is_connected w.sessions id) (is_subscription text)
    (sym (taken-unsubscribe w id text) ∙ h)).1

-- ## What a command does to a subscription

-- a command that is taken ends this client's subscription to this text
abbrev pub ends : World → Request → (client own : Text) → Bool
ends w (Connect id user clean interval) client own =
    same_text client id && not (resumes w.sessions id clean)
ends w (Disconnect id) client own = same_text client id && not (outlives w.sessions id)
ends w (Subscribe id text options) client own = same_text client id && same_text own text
ends w (Unsubscribe id text) client own = same_text client id && same_text own text
ends w (Publish m) client own = false
ends w (SetAcl text) client own = false
ends w (Advance seconds) client own =
    is_among (filter (has_ended (w.moment + seconds)) w.sessions) client
ends w Stat client own = false

and_true : (b : Bool) → (b && true) ≡ b
and_true true = refl
and_true false = refl

left_rows : (s : Subscription) (id : Text) (rows : List Row) (lasts : Bool)
    → has_row s rows ≡ true
    → has_row s (if lasts then rows else without_client id rows)
    ≡ not (same_text s.client id && not lasts)
left_rows s id rows true h = h ∙ sym (ap not (and-false (same_text s.client id)))
left_rows s id rows false h =
    has_row-without s id rows ∙ ap (λ b. b && not (same_text s.client id)) h
    ∙ ap not (sym (and_true (same_text s.client id)))

abbrev disconnected : World → Text → Bool → World
disconnected w id lasts =
    if lasts then record w { sessions = map (left_by w.moment id) w.sessions }
    else record w {
      sessions = filter (λ session. not (has_id id session)) w.sessions;
      rows = without_client id w.rows;
    }

disconnected-rows : (s : Subscription) (w : World) (id : Text) (lasts : Bool)
    → has_row s w.rows ≡ true
    → has_row s (disconnected w id lasts).rows ≡ not (same_text s.client id && not lasts)
disconnected-rows s w id true h = left_rows s id w.rows true h
disconnected-rows s w id false h = left_rows s id w.rows false h

stays-rows : (s : Subscription) (w : World) (request : Request) → is_taken w request ≡ true
    → stays s w request ≡ (not (makes s w request) && has_row s (after w request).rows)
stays-rows s w request h = ap (λ b. not (makes s w request) && b)
    (there-is s (next w request) ∙ ap (λ (v : World). has_row s v.rows) (next-taken w request h))

-- one that isn't taken leaves it
pub stays-refused : (s : Subscription) (w : World) (request : Request)
    → is_taken w request ≡ false → is_there s w ≡ true → stays s w request ≡ true
stays-refused s w request h there =
    ap (λ b. not b && is_there s (next w request)) (makes-refused request h)
    ∙ ap (is_there s) (next-refused w request h) ∙ there
  where
    makes-refused : (request : Request) → is_taken w request ≡ false
        → makes s w request ≡ false
    makes-refused (Connect id user clean interval) e = refl
    makes-refused (Disconnect id) e = refl
    makes-refused (Subscribe id text options) e =
        ap (λ b. b && same_key s (subscription_of id text options)) e
    makes-refused (Unsubscribe id text) e = refl
    makes-refused (Publish m) e = refl
    makes-refused (SetAcl text) e = refl
    makes-refused (Advance seconds) e = refl
    makes-refused Stat e = refl

-- one that is taken leaves it unless it ends it
pub stays-taken : (shown : spec.Subscription) (w : World) (request : Request)
    → is_taken w request ≡ true → is_subscription shown.filter ≡ true
    → is_there (key_of shown) w ≡ true
    → stays (key_of shown) w request ≡ not (ends w request shown.client shown.filter)
unfolding after
stays-taken shown w (Connect id user clean interval) h valid there =
    stays-rows (key_of shown) w (Connect id user clean interval) h
    ∙ left_rows (key_of shown) id w.rows (resumes w.sessions id clean)
    (sym (there-is (key_of shown) w) ∙ there)
stays-taken shown w (Disconnect id) h valid there =
    stays-rows (key_of shown) w (Disconnect id) h
    ∙ disconnected-rows (key_of shown) w id (outlives w.sessions id)
    (sym (there-is (key_of shown) w) ∙ there)
stays-taken shown w (Subscribe id text options) h valid there =
    let made : Bool = same_key (key_of shown) (subscription_of id text options) in
    let row : Row = record {
      subscription = subscription_of id text options;
      stamp = kept_stamp w (subscription_of id text options);
    } in
    stays-rows (key_of shown) w (Subscribe id text options) h
    ∙ ap (λ b. not (b && made) && has_row (key_of shown) (with_row row_cmp row w.rows)) h
    ∙ ap (λ b. not made && b) (has_row-with (key_of shown) row w.rows
    ∙ ap (λ b. b || made) (sym (there-is (key_of shown) w) ∙ there))
    ∙ and_true (not made)
    ∙ ap not (made-is shown id text options valid (subscribe-valid w id text options h))
stays-taken shown w (Unsubscribe id text) h valid there =
    stays-rows (key_of shown) w (Unsubscribe id text) h
    ∙ has_row-unsubscribed (key_of shown) id text w.rows
    ∙ ap (λ b. b && not (has_key id (share_of text) (filter_part text) (key_of shown)))
    (sym (there-is (key_of shown) w) ∙ there)
    ∙ ap not (key-is shown id text valid (unsubscribe-valid w id text h))
stays-taken shown w (Publish m) h valid there =
    stays-rows (key_of shown) w (Publish m) h
    ∙ any-restamped (key_of shown) w.accepted (served_by w m) w.rows
    ∙ sym (there-is (key_of shown) w) ∙ there
stays-taken shown w (SetAcl text) h valid there =
    stays-rows (key_of shown) w (SetAcl text) h ∙ sym (there-is (key_of shown) w) ∙ there
stays-taken shown w (Advance seconds) h valid there =
    let ended : List Session = filter (has_ended (w.moment + seconds)) w.sessions in
    stays-rows (key_of shown) w (Advance seconds) h
    ∙ any-kept (λ (row : Row). same_key (key_of shown) row.subscription)
    (λ row. not (is_among ended row.subscription.client)) (not (is_among ended shown.client))
    (λ row same. ap (λ c. not (is_among ended c)) (key_parts (key_of shown) row.subscription
    same).0) w.rows
    ∙ ap (λ b. b && not (is_among ended shown.client)) (sym (there-is (key_of shown) w) ∙ there)
stays-taken shown w Stat h valid there =
    stays-rows (key_of shown) w Stat h ∙ sym (there-is (key_of shown) w) ∙ there
