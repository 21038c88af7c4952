use Rattle.std.proofs.Common.{◌≡◌, ◌-◌, ◌≤◌, ◌++◌, map, length, take, replicate}
use Rattle.receiver.specs.Model.{value_of}
use Rattle.receiver.proofs.loading.load.Given as goal

abbrev pub invariant-loop-byte : goal.invariant-loop-byte
invariant-loop-byte g l =
    record {
      filled : take l.byte-index l.stack.slots.now ≡ map (λ b. value_of g.S.Soft.kind (g.S.Soft.kind.read b)) (take l.byte-index l.bytes);
      len : l.stack.len ≡ l.byte-index;
      long : length l.stack.slots.now ≡ length l.initial.stack.slots.now;
      same : l.stack.slots.ghost_name ≡ l.initial.stack.slots.ghost_name;
    }

abbrev pub invariant-loop : goal.invariant-loop
invariant-loop g l =
    record {
      filled : take l.counter l.stack.slots.now ≡ map (λ b. value_of g.S.Soft.kind (g.S.Soft.kind.read b)) l.bytes ++ replicate (l.counter - length l.bytes) g.S.Soft.kind.fill;
      len : l.stack.len ≡ l.counter;
      past : length l.bytes ≤ l.counter;
      long : length l.stack.slots.now ≡ length l.initial.stack.slots.now;
      same : l.stack.slots.ghost_name ≡ l.initial.stack.slots.ghost_name;
    }
