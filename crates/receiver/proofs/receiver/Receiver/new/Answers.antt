use Rattle.std.proofs.Common.{refl}
use Rattle.receiver.specs.Histories.{after_calls}
use Rattle.receiver.specs.Law.{AllMapped}
use Rattle.receiver.proofs.Refines.{agrees_new}
use Rattle.receiver.proofs.SpansAsked.{means_known}
use Rattle.receiver.proofs.receiver.Receiver.new.Goals as goal

pub returns-clause-led : goal.returns-clause-led
unfolding after_calls AllMapped
returns-clause-led g c = λ soft steps row.
    let n = g.M.Map.exponent c.args.map in
    let marks = g.M.Map.marks c.args.map in
    record {
      map0 = means_known c.n-n.ensures.value c.n-n.ensures.means;
      maps = tt;
      agrees = agrees_new g.S.Soft.kind n marks _ _ soft steps row refl refl;
    }
