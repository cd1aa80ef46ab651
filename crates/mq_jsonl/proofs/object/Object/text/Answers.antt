use Rattle.std.proofs.Common.{sym, ap, ◌∙◌}
use Rattle.std.proofs.lemmas.Result.{on_ok_weaker}
use Rattle.std.specs.Option.{option_copied_mut}
use Rattle.serde_json.specs.Data.{put}
use Rattle.serde_json.specs.View.{view, members_view}
use Rattle.serde_json.specs.Written.{has_float, members_have_float}
use Rattle.mq_jsonl.proofs.FloatLemmas.{on_either, put_none}
use Rattle.mq_jsonl.proofs.SetLemmas.{set_is_put, found_none}
use Rattle.mq_jsonl.proofs.object.Object.text.Goals as goal

pub invariant_of-self : goal.invariant_of-self
invariant_of-self c =
    let name = c.args.name.now in
    let es = c.args.self.now.members.entries in
    let v = c.in-Some.slot.now in
    let w = c.set_text.new.slot in
    let found = sym c.get_mut.ensures.value ∙ ap option_copied_mut c.in-Some.is in
    let set = ap members_view (c.get_mut.follows.holds w).0
    ∙ set_is_put name es v w c.get_mut.ensures.ordered found in
    let none = on_either c.set_text.result c.set_text.ensures.ok c.set_text.ensures.err
    (λ e. ap has_float e) (λ f. f (found_none name es v found c.args.self.now.no_float)) in
    record {
      no_float = ap members_have_float set
          ∙ put_none name (view w) (members_view es) none c.args.self.now.no_float;
    }

pub returns-in-Some : goal.returns-in-Some
returns-in-Some c =
    let name = c.args.name.now in
    let es = c.args.self.now.members.entries in
    let w = c.set_text.new.slot in
    let found = sym c.get_mut.ensures.value ∙ ap option_copied_mut c.in-Some.is in
    let set = ap members_view (c.get_mut.follows.holds w).0
    ∙ set_is_put name es c.in-Some.slot.now w c.get_mut.ensures.ordered found in
    on_ok_weaker c.set_text.result (λ e. set ∙ ap (λ d. put name d (members_view es)) e)
    c.set_text.ensures.ok
