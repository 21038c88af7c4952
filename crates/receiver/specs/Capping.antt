-- Caps as they are kept: cited by the contracts of the receiver's calls. Assumes nothing.
use Rattle.receiver.specs.declared.caps.Caps.{Caps as Kept}
use Rattle.receiver.specs.Work.{Caps}

-- the caps that are kept
abbrev pub caps_of : Kept → Caps
caps_of caps = record { first = caps.first; second = caps.second }
