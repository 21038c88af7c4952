use Rattle.std.proofs.Common.{◌≡◌, ◌-◌, [], ◌∷◌, ◌++◌, map, length, replicate, subst, take, None, ap, ◌∙◌, arith, rules}
use Rattle.std.proofs.lemmas.List.{take_more_set}
use Rattle.receiver.specs.declared.memory.Next.TheVariants as next
use Rattle.receiver.specs.Agreement.{roomy}
use Rattle.receiver.specs.Model.{value_of}
use Rattle.receiver.specs.Words.{word_door}
use Rattle.std.proofs.lemmas.Float.{T_from_true}
use Rattle.receiver.proofs.Rooms.{room_answered}
use Rattle.receiver.proofs.receiver.Receiver.begin.Goals as goal

-- Kept: the clause is a record, and is answered as a whole, also the parts that the check finds.
pub returns-clause-taken : goal.returns-clause-taken
returns-clause-taken g c =
    let kind = g.S.Soft.kind in
    let n = g.M.Map.exponent c.args.self.now.map in
    let soft = c.args.memory.now.soft.now in
    let steps = c.args.memory.now.pending.now in
    let bits = c.args.memory.now.bits.now in
    let door : word_door kind c.args.self.now.state c.args.fits (roomy n soft steps bits) c.args.bytes.now ≡ None = search rules in
    let room = room_answered n soft steps bits c.in_ok-enough_memory.ensures in
    let fits = c.requires (T_from_true c.args.fits c.if-not-fits.false) in
    let size = c.position_count-size.ensures.value in
    record {
      answered = search rules;
      working = search rules;
      bits = search rules;
      values = λ e. subst (λ k. take k c.load.new.soft ≡ map (λ b. value_of kind (kind.read b)) c.args.bytes.now ++ replicate (k - length c.args.bytes.now) kind.fill) size c.load.ensures;
      first = λ e. ap (take 1) c.put_alone.ensures ∙ take_more_set steps 0 _ (omega (arith, room.step_room)) ∙ ap (λ k. record { next = next.First; start = 0; e = k } ∷ []) c.n.ensures.value;
      kept = search rules;
    }
