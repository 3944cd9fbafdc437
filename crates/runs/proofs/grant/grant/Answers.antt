use Rattle.std.proofs.lemmas.List.{set-get_or}
use Rattle.runs.proofs.Granting.{granted_none, granted_must, granted_at}
use Rattle.runs.proofs.grant.grant.Goals as goal

pub returns-in_default-clause-goes : goal.returns-in_default-clause-goes
returns-in_default-clause-goes g c = λ P x pool S h. rw c.in_default.ensures.unchanged (granted_none g.met.B.Arbiter.lawful h c.in_default.field-0 (c.in_default.ensures.account c.requires.stands))

pub returns-in-Waiting-clause-goes : goal.returns-in-Waiting-clause-goes
returns-in-Waiting-clause-goes g c = λ P x pool S h.
    granted_at g.met.B.Arbiter.lawful h c.in-Ok.port c.grant.new.self (c.in-Ok.ensures.account c.requires.stands) c.from.result c.from.ensures c.requires.rows
    c.in-Waiting.turn c.in-Waiting.k c.on.new.self c.serve.new.self c.in-Waiting.is c.on.ensures c.serve.ensures

pub returns-in_default-stage : goal.returns-in_default-stage
returns-in_default-stage g c = record {
  inside = rw set-get_or c.requires.inside;
  goes = λ P x pool S h. absurd (granted_must g.met.B.Arbiter.lawful h c.in-Ok.port c.grant.new.self (c.in-Ok.ensures.account c.requires.stands) c.from.result c.from.ensures c.in_default-stage.not-Waiting);
}
