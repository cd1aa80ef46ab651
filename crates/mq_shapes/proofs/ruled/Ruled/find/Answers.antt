use Rattle.std.proofs.Common.{◌∙◌, string_bytes, sym}
use Rattle.std.specs.List.{filter}
use Rattle.std.proofs.lemmas.Result.{IfOk-weaker}
use Rattle.mq_unify.specs.Joined.{user_view}
use Rattle.mq_unify.specs.Rows.{lent_rows}
use Rattle.mq_acl.specs.Views.{row_view}
use Rattle.mq_shapes.specs.Ruled.{is_kept, known_levels}
use Rattle.std.proofs.Common.{[], ◌++◌, IfOk, IfSome, subst}
use Rattle.mq_topic.specs.Levels.{levels}
use Rattle.mq_cover.specs.Choices.{other_at}
use Rattle.mq_shapes.specs.Passed.{Passes}
use Rattle.mq_shapes.proofs.KeptLemmas.{all-map, enough_are, firsts_are, firsts_unmarked, found_named}
use Rattle.mq_shapes.proofs.KeptLemmas.{found_others, found_unnamed, kept_unmarked, left_kept, none_covered, none_kept}
use Rattle.mq_shapes.proofs.KeptLemmas.{none_elsewhere, none_named, none_others, none_unnamed, search_ready}
use Rattle.mq_shapes.proofs.TextLemmas.{if_none, if_some}
use Rattle.mq_shapes.proofs.ruled.Ruled.find.Goals as goal

pub returns-then-not-are_kept-clause-none : goal.returns-then-not-are_kept-clause-none
returns-then-not-are_kept-clause-none c =
    let self = c.args.self.now in
    none_kept self.others self.start self.users.now c.args.clients (lent_rows self.within.now)
    (lent_rows self.must.now) (lent_rows self.cover.now) self.ready
    (all-map (is_kept self.start c.args.clients) (λ row. row_view row.now) self.must.now
    ∙ sym c.are_kept.ensures ∙ c.if-not-are_kept.true)

pub returns-then-begins_elsewhere-clause-none : goal.returns-then-begins_elsewhere-clause-none
returns-then-begins_elsewhere-clause-none c =
    let self = c.args.self.now in
    none_elsewhere self.others self.start self.users.now c.args.clients (lent_rows self.within.now)
    (lent_rows self.must.now) (lent_rows self.cover.now) self.ready
    (c.begins_elsewhere.ensures c.if-begins_elsewhere.true)

pub returns-then-hits_none-clause-none : goal.returns-then-hits_none-clause-none
returns-then-hits_none-clause-none c =
    let self = c.args.self.now in
    let musts = firsts_are self.within.now self.must.now c.deref-2.result.now
    c.in_ok-must.must.items c.deref-2.ensures.value c.in_ok-must.ensures in
    let rows = enough_are (lent_rows c.deref.result.now)
    (lent_rows self.within.now ++ lent_rows self.must.now)
    (filter (is_kept self.start c.args.clients) (lent_rows self.cover.now))
    c.deref-3.result.now c.in_ok-cover.cover.items
    (firsts_are self.within.now self.must.now c.deref.result.now c.in_ok-must.must.items
    c.deref.ensures.value c.in_ok-must.ensures)
    c.deref-3.ensures.value c.in_ok-cover.ensures in
    none_covered self.others self.start self.users.now c.args.clients (lent_rows self.within.now)
    (lent_rows self.must.now) (lent_rows self.cover.now) self.ready
    (lent_rows c.deref-2.result.now) (lent_rows c.deref-3.result.now) musts rows
    (c.hits_none.ensures c.if-hits_none.true)

pub invariant_of-search : goal.invariant_of-search
invariant_of-search c =
    let self = c.args.self.now in
    let musts = firsts_are self.within.now self.must.now c.deref-4.result.now
    c.in_ok-must.must.items c.deref-4.ensures.value c.in_ok-must.ensures in
    let rows = enough_are (lent_rows c.deref.result.now)
    (lent_rows self.within.now ++ lent_rows self.must.now)
    (filter (is_kept self.start c.args.clients) (lent_rows self.cover.now))
    c.deref-5.result.now c.in_ok-cover.cover.items
    (firsts_are self.within.now self.must.now c.deref.result.now c.in_ok-must.must.items
    c.deref.ensures.value c.in_ok-must.ensures)
    c.deref-5.ensures.value c.in_ok-cover.ensures in
    record {
      ready = search_ready self.others self.start self.users.now c.args.clients
          (lent_rows self.within.now) (lent_rows self.must.now) (lent_rows self.cover.now) self.ready
          c.left_out.result.now (lent_rows c.deref-4.result.now) (lent_rows c.deref-5.result.now)
          c.left_out.ensures
          musts rows;
    }

pub unnamed-requires-clause-must : goal.unnamed-requires-clause-must
unnamed-requires-clause-must c =
    let self = c.args.self.now in
    let musts = firsts_are self.within.now self.must.now c.deref-4.result.now
    c.in_ok-must.must.items c.deref-4.ensures.value c.in_ok-must.ensures in
    firsts_unmarked self.start c.args.clients (lent_rows self.within.now) (lent_rows self.must.now)
    (lent_rows c.deref-4.result.now) c.in-Anonymous.is self.ready.literal
    (all-map (is_kept self.start c.args.clients) (λ row. row_view row.now) self.must.now
    ∙ sym c.are_kept.ensures ∙ c.if-not-are_kept.false)
    musts

pub unnamed-requires-clause-cover : goal.unnamed-requires-clause-cover
unnamed-requires-clause-cover c =
    let self = c.args.self.now in
    let rows = enough_are (lent_rows c.deref.result.now)
    (lent_rows self.within.now ++ lent_rows self.must.now)
    (filter (is_kept self.start c.args.clients) (lent_rows self.cover.now))
    c.deref-5.result.now c.in_ok-cover.cover.items
    (firsts_are self.within.now self.must.now c.deref.result.now c.in_ok-must.must.items
    c.deref.ensures.value c.in_ok-must.ensures)
    c.deref-5.ensures.value c.in_ok-cover.ensures in
    let kept = is_kept self.start c.args.clients in
    kept_unmarked self.start c.args.clients c.in-Anonymous.is (lent_rows c.deref-5.result.now)
    (rows.among kept (left_kept kept (lent_rows self.cover.now)))

pub returns-in-Anonymous-clause-none : goal.returns-in-Anonymous-clause-none
returns-in-Anonymous-clause-none c =
    let self = c.args.self.now in
    let musts = firsts_are self.within.now self.must.now c.deref-4.result.now
    c.in_ok-must.must.items c.deref-4.ensures.value c.in_ok-must.ensures in
    let rows = enough_are (lent_rows c.deref.result.now)
    (lent_rows self.within.now ++ lent_rows self.must.now)
    (filter (is_kept self.start c.args.clients) (lent_rows self.cover.now))
    c.deref-5.result.now c.in_ok-cover.cover.items
    (firsts_are self.within.now self.must.now c.deref.result.now c.in_ok-must.must.items
    c.deref.ensures.value c.in_ok-must.ensures)
    c.deref-5.ensures.value c.in_ok-cover.ensures in
    IfOk-weaker c.unnamed.result _ _ (if_none (none_unnamed self.others self.start self.users.now c.args.clients
    (lent_rows self.within.now) (lent_rows self.must.now) (lent_rows self.cover.now) self.ready
    c.in-Anonymous.is (lent_rows c.deref-4.result.now) (lent_rows c.deref-5.result.now)
    musts rows)) c.unnamed.ensures.none

pub returns-in-Anonymous-clause-some : goal.returns-in-Anonymous-clause-some
returns-in-Anonymous-clause-some c =
    let self = c.args.self.now in
    let musts = firsts_are self.within.now self.must.now c.deref-4.result.now
    c.in_ok-must.must.items c.deref-4.ensures.value c.in_ok-must.ensures in
    let rows = enough_are (lent_rows c.deref.result.now)
    (lent_rows self.within.now ++ lent_rows self.must.now)
    (filter (is_kept self.start c.args.clients) (lent_rows self.cover.now))
    c.deref-5.result.now c.in_ok-cover.cover.items
    (firsts_are self.within.now self.must.now c.deref.result.now c.in_ok-must.must.items
    c.deref.ensures.value c.in_ok-must.ensures)
    c.deref-5.ensures.value c.in_ok-cover.ensures in
    IfOk-weaker c.unnamed.result _ _ (if_some (λ found. found_unnamed self.others self.start self.users.now c.args.clients
    (lent_rows self.within.now) (lent_rows self.must.now) (lent_rows self.cover.now) self.ready
    (all-map (is_kept self.start c.args.clients) (λ row. row_view row.now) self.must.now
    ∙ sym c.are_kept.ensures ∙ c.if-not-are_kept.false)
    (lent_rows c.deref-4.result.now) (lent_rows c.deref-5.result.now)
    musts rows (string_bytes found.client)
    (string_bytes found.topic) (user_view found.user) c.in-Anonymous.is)) c.unnamed.ensures.some

pub invariant_of-search-in-Named : goal.invariant_of-search-in-Named
invariant_of-search-in-Named c =
    let self = c.args.self.now in
    let musts = firsts_are self.within.now self.must.now c.deref-4.result.now
    c.in_ok-must.must.items c.deref-4.ensures.value c.in_ok-must.ensures in
    let rows = enough_are (lent_rows c.deref.result.now)
    (lent_rows self.within.now ++ lent_rows self.must.now)
    (filter (is_kept self.start c.args.clients) (lent_rows self.cover.now))
    c.deref-5.result.now c.in_ok-cover.cover.items
    (firsts_are self.within.now self.must.now c.deref.result.now c.in_ok-must.must.items
    c.deref.ensures.value c.in_ok-must.ensures)
    c.deref-5.ensures.value c.in_ok-cover.ensures in
    record {
      ready = search_ready self.others self.start self.users.now c.args.clients
          (lent_rows self.within.now) (lent_rows self.must.now) (lent_rows self.cover.now) self.ready
          c.left_out.result.now (lent_rows c.deref-4.result.now) (lent_rows c.deref-5.result.now)
          c.left_out.ensures
          musts rows;
    }

pub returns-in-Named-clause-none : goal.returns-in-Named-clause-none
returns-in-Named-clause-none c =
    let self = c.args.self.now in
    let musts = firsts_are self.within.now self.must.now c.deref-4.result.now
    c.in_ok-must.must.items c.deref-4.ensures.value c.in_ok-must.ensures in
    let rows = enough_are (lent_rows c.deref.result.now)
    (lent_rows self.within.now ++ lent_rows self.must.now)
    (filter (is_kept self.start c.args.clients) (lent_rows self.cover.now))
    c.deref-5.result.now c.in_ok-cover.cover.items
    (firsts_are self.within.now self.must.now c.deref.result.now c.in_ok-must.must.items
    c.deref.ensures.value c.in_ok-must.ensures)
    c.deref-5.ensures.value c.in_ok-cover.ensures in
    let known = rw c.in-Named.is at c.requires.user in
    IfOk-weaker c.of_user.result _ _ (if_none (none_named self.others self.start self.users.now c.args.clients
    (lent_rows self.within.now) (lent_rows self.must.now) (lent_rows self.cover.now) self.ready
    c.in-Named.name c.in-Named.is (lent_rows c.deref-4.result.now) (lent_rows c.deref-5.result.now)
    musts
    rows known.1)) c.of_user.ensures.none

pub returns-in-Named-clause-some : goal.returns-in-Named-clause-some
returns-in-Named-clause-some c =
    let self = c.args.self.now in
    let musts = firsts_are self.within.now self.must.now c.deref-4.result.now
    c.in_ok-must.must.items c.deref-4.ensures.value c.in_ok-must.ensures in
    let rows = enough_are (lent_rows c.deref.result.now)
    (lent_rows self.within.now ++ lent_rows self.must.now)
    (filter (is_kept self.start c.args.clients) (lent_rows self.cover.now))
    c.deref-5.result.now c.in_ok-cover.cover.items
    (firsts_are self.within.now self.must.now c.deref.result.now c.in_ok-must.must.items
    c.deref.ensures.value c.in_ok-must.ensures)
    c.deref-5.ensures.value c.in_ok-cover.ensures in
    let known = rw c.in-Named.is at c.requires.user in
    IfOk-weaker c.of_user.result _ _ (if_some (λ found. found_named self.others self.start self.users.now c.args.clients
    (lent_rows self.within.now) (lent_rows self.must.now) (lent_rows self.cover.now) self.ready
    (all-map (is_kept self.start c.args.clients) (λ row. row_view row.now) self.must.now
    ∙ sym c.are_kept.ensures ∙ c.if-not-are_kept.false)
    (lent_rows c.deref-4.result.now) (lent_rows c.deref-5.result.now)
    musts rows (string_bytes found.client)
    (string_bytes found.topic) (user_view found.user) c.in-Named.name c.in-Named.is known.1))
    c.of_user.ensures.some

pub invariant_of-search-in-Others : goal.invariant_of-search-in-Others
invariant_of-search-in-Others c =
    let self = c.args.self.now in
    let musts = firsts_are self.within.now self.must.now c.deref-4.result.now
    c.in_ok-must.must.items c.deref-4.ensures.value c.in_ok-must.ensures in
    let rows = enough_are (lent_rows c.deref.result.now)
    (lent_rows self.within.now ++ lent_rows self.must.now)
    (filter (is_kept self.start c.args.clients) (lent_rows self.cover.now))
    c.deref-5.result.now c.in_ok-cover.cover.items
    (firsts_are self.within.now self.must.now c.deref.result.now c.in_ok-must.must.items
    c.deref.ensures.value c.in_ok-must.ensures)
    c.deref-5.ensures.value c.in_ok-cover.ensures in
    record {
      ready = search_ready self.others self.start self.users.now c.args.clients
          (lent_rows self.within.now) (lent_rows self.must.now) (lent_rows self.cover.now) self.ready
          c.left_out.result.now (lent_rows c.deref-4.result.now) (lent_rows c.deref-5.result.now)
          c.left_out.ensures
          musts rows;
    }

pub returns-clause-none : goal.returns-clause-none
returns-clause-none c =
    let self = c.args.self.now in
    let musts = firsts_are self.within.now self.must.now c.deref-4.result.now
    c.in_ok-must.must.items c.deref-4.ensures.value c.in_ok-must.ensures in
    let rows = enough_are (lent_rows c.deref.result.now)
    (lent_rows self.within.now ++ lent_rows self.must.now)
    (filter (is_kept self.start c.args.clients) (lent_rows self.cover.now))
    c.deref-5.result.now c.in_ok-cover.cover.items
    (firsts_are self.within.now self.must.now c.deref.result.now c.in_ok-must.must.items
    c.deref.ensures.value c.in_ok-must.ensures)
    c.deref-5.ensures.value c.in_ok-cover.ensures in
    IfOk-weaker c.of_others.result _ _ (if_none (none_others self.others self.start self.users.now c.args.clients
    (lent_rows self.within.now) (lent_rows self.must.now) (lent_rows self.cover.now) self.ready
    c.in-Others.is c.left_out.result.now c.left_out.ensures (lent_rows c.deref-4.result.now)
    (lent_rows c.deref-5.result.now)
    musts rows)) c.of_others.ensures.none

pub returns-clause-some : goal.returns-clause-some
returns-clause-some c =
    let self = c.args.self.now in
    let musts = firsts_are self.within.now self.must.now c.deref-4.result.now
    c.in_ok-must.must.items c.deref-4.ensures.value c.in_ok-must.ensures in
    let rows = enough_are (lent_rows c.deref.result.now)
    (lent_rows self.within.now ++ lent_rows self.must.now)
    (filter (is_kept self.start c.args.clients) (lent_rows self.cover.now))
    c.deref-5.result.now c.in_ok-cover.cover.items
    (firsts_are self.within.now self.must.now c.deref.result.now c.in_ok-must.must.items
    c.deref.ensures.value c.in_ok-must.ensures)
    c.deref-5.ensures.value c.in_ok-cover.ensures in
    IfOk-weaker c.of_others.result _ _ (if_some (λ found. found_others self.others self.start self.users.now c.args.clients
    (lent_rows self.within.now) (lent_rows self.must.now) (lent_rows self.cover.now) self.ready
    (all-map (is_kept self.start c.args.clients) (λ row. row_view row.now) self.must.now
    ∙ sym c.are_kept.ensures ∙ c.if-not-are_kept.false)
    (lent_rows c.deref-4.result.now) (lent_rows c.deref-5.result.now)
    musts rows (string_bytes found.client)
    (string_bytes found.topic) (user_view found.user) c.in-Others.is c.left_out.result.now
    c.left_out.ensures)) c.of_others.ensures.some

pub returns-in-Anonymous-clause-pass : goal.returns-in-Anonymous-clause-pass
returns-in-Anonymous-clause-pass c =
    let self = c.args.self.now in
    let musts = firsts_are self.within.now self.must.now c.deref-4.result.now
    c.in_ok-must.must.items c.deref-4.ensures.value c.in_ok-must.ensures in
    let firsts = lent_rows self.within.now ++ lent_rows self.must.now in
    subst (λ k. IfOk c.unnamed.result (λ found. IfSome found (λ found. Passes self.others
    (other_at self.start self.others) (known_levels k) firsts (string_bytes found.client)
    (user_view found.user) (string_bytes found.topic)))) (sym c.in-Anonymous.is)
    (subst (λ musts. IfOk c.unnamed.result (λ found. IfSome found (λ found. Passes self.others
    (other_at self.start self.others) [] musts (string_bytes found.client)
    (user_view found.user) (string_bytes found.topic))))
    musts c.unnamed.ensures.pass)

pub returns-in-Named-clause-pass : goal.returns-in-Named-clause-pass
returns-in-Named-clause-pass c =
    let self = c.args.self.now in
    let musts = firsts_are self.within.now self.must.now c.deref-4.result.now
    c.in_ok-must.must.items c.deref-4.ensures.value c.in_ok-must.ensures in
    let firsts = lent_rows self.within.now ++ lent_rows self.must.now in
    subst (λ k. IfOk c.of_user.result (λ found. IfSome found (λ found. Passes self.others
    (other_at self.start self.others) (known_levels k) firsts (string_bytes found.client)
    (user_view found.user) (string_bytes found.topic)))) (sym c.in-Named.is)
    (subst (λ musts. IfOk c.of_user.result (λ found. IfSome found (λ found. Passes self.others
    (other_at self.start self.others) (levels c.in-Named.name.now) musts (string_bytes found.client)
    (user_view found.user) (string_bytes found.topic))))
    musts c.of_user.ensures.pass)

pub returns-clause-pass : goal.returns-clause-pass
returns-clause-pass c =
    let self = c.args.self.now in
    let musts = firsts_are self.within.now self.must.now c.deref-4.result.now
    c.in_ok-must.must.items c.deref-4.ensures.value c.in_ok-must.ensures in
    let firsts = lent_rows self.within.now ++ lent_rows self.must.now in
    subst (λ k. IfOk c.of_others.result (λ found. IfSome found (λ found. Passes self.others
    (other_at self.start self.others) (known_levels k) firsts (string_bytes found.client)
    (user_view found.user) (string_bytes found.topic)))) (sym c.in-Others.is)
    (subst (λ musts. IfOk c.of_others.result (λ found. IfSome found (λ found. Passes self.others
    (other_at self.start self.others) [] musts (string_bytes found.client)
    (user_view found.user) (string_bytes found.topic))))
    musts c.of_others.ensures.pass)
