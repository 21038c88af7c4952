use Rattle.std.proofs.Common.{◌≡◌, ◌^◌, length, take, None, sym, ap, ◌∙◌, rules}
use Rattle.code.specs.Encode.{informed, message_fault}
use Rattle.code.specs.Faults as code
use Rattle.code.specs.Transform.{transform}
use Rattle.code.proofs.Encodings.{right_lengths, lengths_right}
use Rattle.receiver.specs.Admissions.{in_force}
use Rattle.receiver.specs.Model.{message_in}
use Rattle.receiver.specs.Standings.{take_asked}
use Rattle.receiver.proofs.receiver.Receiver.hand_over.Goals as goal

-- Kept: the clause is a record, and is answered as a whole, also the parts that the check finds.
pub returns-clause-handed : goal.returns-clause-handed
returns-clause-handed g c =
    let map = c.args.self.now.map in
    let n = g.M.Map.exponent map in
    let marks = g.M.Map.marks map in
    let soft = c.args.memory.now.soft.now in
    let steps = c.args.memory.now.pending.now in
    let bits = c.args.memory.now.bits.now in
    let message = c.args.message.now in
    let word = c.args.word.now in
    let state = c.args.self.now.state in
    let door : take_asked g.M.Map.exponent g.M.Map.marks c.args.self.now c.args.memory.now (length message) (length word) ≡ None = search rules in
    let fits = sym c.if-not-right_lengths.ensures.right in
    let right = right_lengths marks (length message) (length word) fits in
    let size = c.position_count-size.ensures in
    let copied : c.copy_front.new.word ≡ take (2 ^ n) bits = c.copy_front.ensures ∙ ap (λ k. take k bits) size.value in
    let long : length c.copy_front.new.word ≡ length marks = c.copy_front.auto.word ∙ right.1 in
    let fault : message_fault marks (length c.copy_front.new.word) (length message) ≡ None = ap (λ k. message_fault marks k (length message)) c.copy_front.auto.word ∙ lengths_right marks (length word) (length message) fits in
    let read : c.message_of.new.message ≡ message_in n marks (take (2 ^ n) bits) =
    c.message_of.ensures.message ∙ ap (λ o. code.in_force o (informed marks (transform n c.copy_front.new.word)) message) fault ∙ ap (λ w. informed marks (transform n w)) copied in
    record {
      answered = search rules;
      written = c.message_of.ensures.word ∙ copied ∙ sym (ap (λ o. in_force o (take (2 ^ n) bits) word) door);
      read = read ∙ sym (ap (λ o. in_force o (message_in n marks (take (2 ^ n) bits)) message) door);
      ended = search rules;
    }
