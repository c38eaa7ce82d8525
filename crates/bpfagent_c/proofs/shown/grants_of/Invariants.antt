use Rattle.std.proofs.Common.{◌≡◌, ◌≤◌, false, map, take, length}
use Rattle.std.specs.List.{All}
use Rattle.bpfagent_c.specs.Shown.{grant_of, IsGrant}
use Rattle.bpfagent_c.proofs.shown.grants_of.Given as goal

abbrev pub invariant-loop-one : goal.invariant-loop-one
invariant-loop-one l = record {
  all : l.grants.all ≡ false;
  listed : l.grants.listed ≡ map grant_of (take l.one-index l.granted);
  are : All IsGrant (take l.one-index l.granted);
  room : length l.grants.listed ≤ l.one-index;
  few : length l.granted ≤ 16;
}
