use Rattle.std.proofs.Common.{◌≡◌, map, string_bytes, take}
use Rattle.oberon_cli.proofs.process.texts.Given as goal

abbrev pub invariant-loop-argument : goal.invariant-loop-argument
invariant-loop-argument l = record {
  texts : map (λ text. text.now) l.texts.items ≡ map string_bytes (take l.argument-index l.arguments);
}
