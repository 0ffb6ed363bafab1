-- Every run delivers, from the law over whole runs.
use Rattle.std.proofs.Common.{length, sym, refl, ap, ◌∙◌, arith}
use Rattle.format.specs.Account.{file_of, revisions_held}
use Rattle.laws.proofs.Files.{history_is}
use Rattle.laws.proofs.Kept.{after_run}
use Rattle.laws.proofs.ReadBack.{updates_read_back}
use Rattle.laws.proofs.Unconditional.{prefixes, law}
use Rattle.keeping.specs.Delivering.{EveryRunDelivers, AnyTwoCompare}

pub every_run : EveryRunDelivers
unfolding file_of revisions_held
every_run was space es m r =
    let x = after_run prefixes updates_read_back was space es m r in
    let k = law.0 was space es m r in
    let s = x.kept.sound in
    let n = ap length (history_is was x.opened x.accepted) in
    let h = s.high in
    record {
      end = m;
      run = r;
      left = refl;
      opening = record { opened = x.opened; accepted = x.accepted; counted = sym n };
      some = s.low;
      most = omega arith;
      bytes = k.bytes;
      revisions = k.opens;
      each = λ i low high. let e = k.each i low high in record { alone = e.alone; objects_alone = e.shows_alone; objects = e.shows };
    }

pub any_two : AnyTwoCompare
any_two was space space' es es' file file' d d' = record {
  updates = λ k e. (law.1 was space space' es es' d.end d'.end d.run d'.run k).0 (d.left ∙ e ∙ sym d'.left);
  files = λ k h. sym d.left ∙ (law.1 was space space' es es' d.end d'.end d.run d'.run k).1 h ∙ d'.left;
}
