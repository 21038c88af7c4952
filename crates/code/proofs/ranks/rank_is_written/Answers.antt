use Rattle.code.proofs.Written.{get_or-ranks_of}
use Rattle.code.proofs.ranks.rank_is_written.Goals as goal

pub returns : goal.returns
returns c = get_or-ranks_of c.args.bytes.now c.args.position c.requires
