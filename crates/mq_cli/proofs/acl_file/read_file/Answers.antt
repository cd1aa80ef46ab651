use Rattle.std.proofs.Common.{◌≡◌, ◌≤◌, ◌+◌, ◌++◌, ℕ, List, length, take, arith, length-append, rules}
use Rattle.std.proofs.Common.{length-take-le}
use Rattle.std.proofs.lemmas.Result.{err_from_is_err_and}
use Rattle.std.proofs.KnownBytes.{Consumes-trans, Consumes-kept}
use Rattle.mq_cli.proofs.acl_file.read_file.Goals as goal

pub returns-then-n-limit-clause-err : goal.returns-then-n-limit-clause-err
returns-then-n-limit-clause-err g c = λ rules.
    let bytes : List ℕ = c.reads.bytes.items in
    let n : ℕ = c.in-Ok.n in
    let piece : List ℕ = c.read.new.buf in
    let bound : n ≤ length piece = c.in-Ok.ensures.bound in
    let count = c.reads.bytes.ok.0 in
    let grown : length (bytes ++ take n piece) ≡ length bytes + n =
    rw (length-append, length-take-le n piece) in (
      bytes ++ take n piece,
      Consumes-trans _ (g.R.Source.to_come c.reads.reader) _ bytes (take n piece)
          c.reads.invariant.given c.in-Ok.ensures.bytes.0,
      (
        let over = c.if-n-limit.true in let is = c.len.ensures in omega arith,
        let counted = c.in-Ok.ensures.counted in omega arith,
      ),
    )

pub returns-in_err-extend_from_slice-clause-err : goal.returns-in_err-extend_from_slice-clause-err
returns-in_err-extend_from_slice-clause-err g c =
    let bytes : List ℕ = c.reads.bytes.items in
    let fault = err_from_is_err_and c.from_residual.result c.from_residual.ensures.1 in
    rw (fault.1, fault.2) (λ rules. (
      bytes ++ take c.in-Ok.n c.read.new.buf,
      Consumes-trans _ (g.R.Source.to_come c.reads.reader) _ bytes (take c.in-Ok.n c.read.new.buf)
          c.reads.invariant.given c.in-Ok.ensures.bytes.0,
      let counted = c.in-Ok.ensures.counted in omega arith,
    ))

pub returns-then-n-eq0-clause-ok : goal.returns-then-n-eq0-clause-ok
returns-then-n-eq0-clause-ok g c = search rules

pub reads-preserved : goal.reads-preserved
reads-preserved g c =
    let bytes : List ℕ = c.reads.bytes.items in
    let n : ℕ = c.in-Ok.n in
    let piece : List ℕ = c.read.new.buf in
    let bound : n ≤ length piece = c.in-Ok.ensures.bound in
    let count = c.reads.bytes.ok.0 in
    let grown : length (bytes ++ take n piece) ≡ length bytes + n =
    rw (length-append, length-take-le n piece) in
    let items = c.in_ok-extend_from_slice.ensures.items in
    record {
      within = rw items (let fits = c.if-n-limit.false in let is = c.len.ensures in
          let within = c.reads.invariant.within in omega arith);
      reader = let counted = c.in-Ok.ensures.counted in omega arith;
      given = rw items (Consumes-trans _ (g.R.Source.to_come c.reads.reader) _ bytes (take n piece)
          c.reads.invariant.given c.in-Ok.ensures.bytes.0);
    }

pub returns-in-Err-clause-err : goal.returns-in-Err-clause-err
returns-in-Err-clause-err g c = λ rules. (
  c.reads.bytes.items,
  Consumes-kept _ (g.R.Source.to_come c.reads.reader) _ c.reads.bytes.items
      c.reads.invariant.given c.in-Err.ensures.bytes,
  let counted = c.in-Err.ensures.counted in omega arith,
)
