use Rattle.std.proofs.Common.{◌≡◌, ◌≤◌, ℕ, List, length, arith, IfSome, sym, subst, string_bytes}
use Rattle.std.proofs.lemmas.Result.{IfOk-weaker, IfErr-weaker}
use Rattle.mqroute_acl.specs.ListFile.{IsFaultIn}
use Rattle.mqroute_acl.specs.declared.list_file.FileFault.{FileFault}
use Rattle.mqroute_acl.proofs.ListFileLemmas.{text_whole, too_long, not_utf8}
use Rattle.mqroute_acl.proofs.list_file.read_text.Goals as goal

pub returns-then-len-gt-FILE_LIMIT-clause-err : goal.returns-then-len-gt-FILE_LIMIT-clause-err
returns-then-len-gt-FILE_LIMIT-clause-err g c =
    too_long (g.R.Read.remaining c.args.reader) c.in_ok-front.front.items c.in_ok-front.ensures.ok
    (let over = c.if-len-gt-FILE_LIMIT.true in let is = c.len.ensures in omega arith)

pub returns-clause-ok : goal.returns-clause-ok
returns-clause-ok g c =
    let front : List ℕ = c.in_ok-front.front.items in
    let within : length front ≤ 16777216 = let low = c.if-len-gt-FILE_LIMIT.false in let is =
    c.len.ensures in omega arith in
    IfOk-weaker c.text_in.result (λ text. string_bytes text ≡ front) _
    (λ text e. text_whole (g.R.Read.remaining c.args.reader) front (string_bytes text)
    c.in_ok-front.ensures.ok within e) c.text_in.ensures.ok

pub returns-clause-err : goal.returns-clause-err
returns-clause-err g c =
    let front : List ℕ = c.in_ok-front.front.items in
    let within : length front ≤ 16777216 = let low = c.if-len-gt-FILE_LIMIT.false in let is =
    c.len.ensures in omega arith in
    IfErr-weaker c.text_in.result _
    (λ fault. IfSome (g.R.Read.remaining c.args.reader) (IsFaultIn fault))
    (λ fault h. subst (λ (f : FileFault). IfSome (g.R.Read.remaining c.args.reader) (IsFaultIn f))
    (sym h.0)
    (not_utf8 (g.R.Read.remaining c.args.reader) front c.in_ok-front.ensures.ok within h.1))
    c.text_in.ensures.err
