use Rattle.loader_errors.proofs.Attach.{packer_agrees}
use Rattle.theorems.proofs.packer_agrees.Goals as goal

pub returns : goal.returns
returns c = packer_agrees
