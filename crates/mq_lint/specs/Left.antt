-- The rows that are left without those that are called needless.
use Rattle.std.specs.Prelude.{List}
use Rattle.mq_acl.specs.Rows.{AclRow}
use Rattle.mq_witness.specs.Asked.{AskedRows}
use Rattle.mq_witness.specs.Rows.{lent_rows}
use Rattle.mq_lint.specs.Needless.{without_all}
use Rattle.mq_lint.specs.declared.called.Called.{Called}

abbrev pub left_of : AskedRows → Called → List AclRow
left_of asked called = without_all (lent_rows called.called.items) asked.rows
