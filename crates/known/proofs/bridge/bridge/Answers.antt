use Rattle.std.proofs.Common.{rules}
use Rattle.known.proofs.Known.{known_stations}
use Rattle.known.proofs.bridge.bridge.Goals as goal

pub returns : goal.returns
returns c = record { drawn = search rules; known = known_stations }
