use Rattle.std.proofs.lemmas.List.{get_or-take}
use Rattle.notices.proofs.bundle.Head.letters.Goals as goal

pub returns-clause-value : goal.returns-clause-value
returns-clause-value c e h = get_or-take 64 c.args.self.now.bytes.now e 0 h
