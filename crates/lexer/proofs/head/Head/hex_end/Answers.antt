use Rattle.std.proofs.Common.{◌+◌, ◌<◌, length, sym, ap, arith}
use Rattle.format.specs.Tokens.{bad_hex}
use Rattle.lexer.specs.Endings.{span_flaw}
use Rattle.lexer.proofs.Runs.{first_is, run_within, run_stops}
use Rattle.lexer.proofs.Hexes.{inside, hex_found, hex_ends, hex_closes, hex_breaks}
use Rattle.lexer.proofs.head.Head.hex_end.Goals as goal

pub returns-then-at-src-clause-is : goal.returns-then-at-src-clause-is
returns-then-at-src-clause-is c =
    let src = c.args.self.src.now in
    let from = c.args.self.at + 1 in
    let n = c.unwrap_or.result in
    let found = first_is inside _ _ _ c.first_outside.ensures c.unwrap_or.ensures in
    ap (span_flaw bad_hex src) (sym (hex_ends src (from + n) (omega arith) (hex_found src from n found)))

pub returns-then-src-at-ne62-clause-is : goal.returns-then-src-at-ne62-clause-is
returns-then-src-at-ne62-clause-is c =
    let src = c.args.self.src.now in
    let from = c.args.self.at + 1 in
    let n = c.unwrap_or.result in
    let found = first_is inside _ _ _ c.first_outside.ensures c.unwrap_or.ensures in
    let h : from + n < length src = omega (arith, run_within inside src from n found (omega arith)) in
    ap (span_flaw bad_hex src) (sym (hex_breaks src (from + n) h c.if-src-at-ne62.true (run_stops inside src from n found h) (hex_found src from n found)))

pub returns-clause-is : goal.returns-clause-is
returns-clause-is c =
    let src = c.args.self.src.now in
    let from = c.args.self.at + 1 in
    let n = c.unwrap_or.result in
    let found = first_is inside _ _ _ c.first_outside.ensures c.unwrap_or.ensures in
    let h : from + n < length src = omega (arith, run_within inside src from n found (omega arith)) in
    sym (hex_closes src (from + n) h c.if-src-at-ne62.false (hex_found src from n found))
