use Rattle.serve_dialogue.proofs.Common.{[], inl, refl, arith, some-room}
use Rattle.serve_dialogue.proofs.ApartLines.{apart-none}
use Rattle.serve_dialogue.proofs.Begins.{no_log}
use Rattle.serve_dialogue.proofs.serving.serve_script.Goals as goal

-- there is no machine
pub returns-in-Err-clause-served : goal.returns-in-Err-clause-served
returns-in-Err-clause-served g c = record {
  history = [];
  legal = record { each = tt; few = omega arith };
  words = refl;
  told = tt;
  by_script = tt;
  apart = apart-none;
  leaves = record {
    told = c.args.client.now;
    spoke_log = no_log g.C.Client.spoke g.C.Client.ended g.C.Client.line g.met.C.Client.silent c.args.answers.now c.args.trace c.args.script c.args.client.now;
    halts = (λ going none. some-room c.args.script, inl refl);
  };
}
