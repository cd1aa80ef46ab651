-- All that changes from one list to another.
use Rattle.std.specs.Prelude.{◌≡◌, ℕ, true, List, Option}
use Rattle.std.specs.List.{list_any}
use Rattle.mq_topic.specs.Texts.{is_name}
use Rattle.mq_acl.specs.Views.{row_views}
use Rattle.mq_acl.specs.declared.access.Direction.{Direction}
use Rattle.mq_witness.specs.Asked.{IsListed}
use Rattle.mq_witness.specs.Clients.{can_be_id}
use Rattle.mq_shapes.specs.declared.clients.Clients.{Clients}
use Rattle.mq_differences.specs.Classes.{can_be_user}
use Rattle.mq_differences.specs.Differences.{is_change, is_shown_of}
use Rattle.mq_differences.specs.Questions.{AreRowsFor, IsPoint}
use Rattle.mq_differences.specs.declared.changes.ClassRows.{ClassRows}
use Rattle.mq_differences.specs.declared.difference.Difference.{Difference}
use Rattle.mq_witness.specs.declared.topics.Topics.TheVariants.{Open}
use Rattle.mq_differences.specs.declared.lists.Lists.{Lists}
use Rattle.mq_differences.specs.declared.way.Way.{Way}

-- the rows of both lists for clients that can be asked about
pub record AreClassRows (lists : Lists) (rows : ClassRows) : Type 0 where
  pub listed : IsListed lists.asked rows.clients
  pub old_rows : AreRowsFor lists.old.now lists.new.now rows.clients rows.old.items
  pub new_rows : AreRowsFor lists.new.now lists.old.now rows.clients rows.new.items

-- what these clients gain, or lose, in this direction is shown
abbrev pub ShowsChangesIn : Lists → Clients → Way → Direction → List Difference → Type 0
ShowsChangesIn lists clients way direction shown = (client topic : List ℕ) (user : Option (List ℕ))
    → IsPoint (Open direction) lists.asked clients client user topic
    → is_change lists.asked.rules way (row_views lists.old.now) (row_views lists.new.now) client
    user topic direction ≡ true
    → list_any (is_shown_of lists.asked.rules lists.old.now lists.new.now way direction client user topic) shown ≡ true

-- what clients of this user name, or without one, gain and lose is shown
abbrev pub ShowsChangesOf : Lists → Option (List ℕ) → List Difference → Type 0
ShowsChangesOf lists user shown = (way : Way) (direction : Direction) (client topic : List ℕ)
    → can_be_id client ≡ true → can_be_user user ≡ true
    → is_name topic ≡ true
    → is_change lists.asked.rules way (row_views lists.old.now) (row_views lists.new.now) client
    user topic direction ≡ true
    → list_any (is_shown_of lists.asked.rules lists.old.now lists.new.now way direction client user topic) shown ≡ true
