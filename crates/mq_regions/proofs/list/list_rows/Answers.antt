use Rattle.std.proofs.Common.{◌∙◌, map, ap, sym}
use Rattle.std.proofs.lemmas.Bool.{or_parts}
use Rattle.mq_acl.specs.Access.{rows_allow}
use Rattle.mq_acl.specs.Views.{row_views}
use Rattle.mq_rename.specs.Lists.{is_long, texts}
use Rattle.mq_regions.specs.Deciding.{first_line}
use Rattle.mq_regions.specs.Limits.{has_long_row}
use Rattle.mq_regions.specs.Made.{denial}
use Rattle.mq_regions.proofs.LineLemmas.{IsList, list_outside, list_same, list_short}
use Rattle.mq_regions.proofs.list.list_rows.Goals as goal

list_is : (c : goal.After-drop-denied-2) → IsList c.args.side c.args.region.now c.args.client.now
    c.args.rows.now c.in_ok-made.made.items c.in_ok-denied.denied.items
list_is c =
    let no_long = or_parts _ _ (sym c.is_long_question.ensures ∙ c.if-is_long_question.false) in
    record {
      made_of = c.in_ok-made.ensures.made;
      denials = c.in_ok-denied.ensures
          ∙ ap (λ taken. map denial (texts taken)) c.deref.ensures.value;
      marks = c.requires.region;
      short = (or_parts (is_long c.args.client.now) _ no_long.0).1;
    }

pub returns-clause-same : goal.returns-clause-same
returns-clause-same c = λ x n m user p h g e.
    ap (first_line p x user n) c.in_ok-append.ensures.items
    ∙ list_same c.args.region.now c.in_ok-made.made.items c.in_ok-denied.denied.items (list_is c) x
    n m user p h g e

pub returns-clause-outside : goal.returns-clause-outside
returns-clause-outside c = λ x n user direction h g.
    ap (λ rows. rows_allow (row_views rows) x user n direction) c.in_ok-append.ensures.items
    ∙ list_outside c.args.region.now c.in_ok-made.made.items c.in_ok-denied.denied.items (list_is c)
    x n user direction h g

pub returns-clause-short : goal.returns-clause-short
returns-clause-short c = λ h.
    ap (λ rows. has_long_row (row_views rows)) c.in_ok-append.ensures.items
    ∙ list_short c.args.region.now c.in_ok-made.made.items c.in_ok-denied.denied.items (list_is c) h
