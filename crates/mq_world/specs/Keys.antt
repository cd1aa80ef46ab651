-- The keys of the router's maps, which are client ids and share names: texts that copies share.
use Rattle.std.specs.Prelude.{Bool}
use Rattle.std.specs.Rc.{rc_str_bytes}
use Rattle.std.specs.declared.alloc.Global.{Global}
use Rattle.std.specs.declared.cmp.Ordering.{Ordering}
use Rattle.std.specs.declared.rc.RcStr.{RcStr}
use Rattle.mq_world.specs.Lists.{same_text, text_cmp}

abbrev pub Key : Type 0
Key = RcStr Global

abbrev pub key_cmp : Key → Key → Ordering
key_cmp x y = text_cmp (rc_str_bytes x) (rc_str_bytes y)

abbrev pub key_eq : Key → Key → Bool
key_eq x y = same_text (rc_str_bytes x) (rc_str_bytes y)
