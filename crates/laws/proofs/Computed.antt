-- The example, by computation.
use Rattle.std.proofs.Common.{[], ◌∷◌, codes, refl, lit≤}
use Rattle.format.proofs.Computed.{computes}
use Rattle.format.specs.Book.{standing, updating}
use Rattle.format.specs.Updates.{body, removed}
use Rattle.format.specs.Worked.{worked_file, file2, file3, file4}
use Rattle.laws.specs.WorkedRun.{WorkedRun, gates, at}

pub worked_run : WorkedRun
unfolding computes
worked_run = record {
  runs = (
    at standing worked_file 819,
    record { answer = refl; leaves = record { phase = refl; bytes = refl; space = refl } },
    (
      at (updating []) worked_file 819,
      record { answer = refl; leaves = record { phase = refl; bytes = refl; space = refl } },
      (
        at (updating ((3, body (codes "7")) ∷ [])) worked_file 819,
        record { answer = refl; leaves = record { phase = refl; bytes = refl; space = refl } },
        (
          at (updating gates) worked_file 819,
          record { answer = refl; leaves = record { phase = refl; bytes = refl; space = refl } },
          (
            at standing file2 644,
            record { answer = refl; leaves = record { phase = refl; bytes = refl; space = refl } },
            (
              at (updating []) file2 644,
              record { answer = refl; leaves = record { phase = refl; bytes = refl; space = refl } },
              (
                at (updating ((2, removed) ∷ [])) file2 644,
                record { answer = refl; leaves = record { phase = refl; bytes = refl; space = refl } },
                (
                  at standing file3 527,
                  record { answer = refl; leaves = record { phase = refl; bytes = refl; space = refl } },
                  (
                    at standing file3 527,
                    record { answer = refl; leaves = refl },
                    (
                      at (updating []) file3 527,
                      record { answer = refl; leaves = record { phase = refl; bytes = refl; space = refl } },
                      (
                        at (updating ((2, body (codes "(weir)")) ∷ [])) file3 527,
                        record { answer = refl; leaves = record { phase = refl; bytes = refl; space = refl } },
                        (
                          at standing file4 388,
                          record { answer = refl; leaves = record { phase = refl; bytes = refl; space = refl } },
                          (
                            at standing file2 644,
                            record { answer = refl; leaves = record { phase = refl; bytes = refl; space = lit≤ tt } },
                            refl,
                          ),
                        ),
                      ),
                    ),
                  ),
                ),
              ),
            ),
          ),
        ),
      ),
    ),
  );
  kept = refl;
  held = refl;
  file = refl;
  left1 = refl;
  left2 = refl;
  shows1 = refl;
  shows2 = refl;
}
