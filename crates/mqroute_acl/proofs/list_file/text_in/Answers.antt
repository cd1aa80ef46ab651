use Rattle.std.proofs.Common.{◌≡◌, ◌≤◌, length, length-take-le, sym}
use Rattle.std.specs.Str.Lossy.{utf8_valid_len}
use Rattle.std.proofs.lemmas.Str.{utf8_valid_len_le}
use Rattle.mqroute_acl.proofs.list_file.text_in.Goals as goal

pub slice_bounds-line_behind-end : goal.slice_bounds-line_behind-end
slice_bounds-line_behind-end c =
    let valid : c.valid_up_to-valid.result ≡ utf8_valid_len c.args.bytes.items =
    rw (c.utf8_error.ensures, c.in-Err.ensures.valid_len) at c.valid_up_to-valid.ensures in
    let same = rw c.in-Err.ensures.err at c.as_bytes.ensures in
    let low : c.valid_up_to-valid.result ≤ length c.as_bytes.result.now =
    rw (valid, same) (utf8_valid_len_le c.args.bytes.items) in
    sym (length-take-le c.valid_up_to-valid.result c.as_bytes.result.now low)
