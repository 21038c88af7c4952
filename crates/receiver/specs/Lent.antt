-- Work memory that its caller gets back: cited by each call that is handed some. Assumes nothing.
use Rattle.std.specs.Prelude.{◌≡◌, length}
use Rattle.receiver.specs.declared.memory.Memory.{Memory}
use Rattle.receiver.specs.declared.open_span.OpenSpan.{OpenSpan}

-- the three parts are those that were lent, and each is as long as it was
pub record SameLoans {S : Type 0} (was now : Memory S) : Type 0 where
  pub soft : now.soft.ghost_name ≡ was.soft.ghost_name
  pub pending : now.pending.ghost_name ≡ was.pending.ghost_name
  pub bits : now.bits.ghost_name ≡ was.bits.ghost_name
  pub soft_long : length now.soft.now ≡ length was.soft.now
  pub pending_long : length now.pending.now ≡ length was.pending.now
  pub bits_long : length now.bits.now ≡ length was.bits.now

-- the parts that an open span works on
abbrev pub memory_of : {S : Type 0} → OpenSpan S → Memory S
memory_of span = record { soft = span.soft; pending = span.pending; bits = span.bits }
