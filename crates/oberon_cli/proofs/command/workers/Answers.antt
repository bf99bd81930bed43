use Rattle.std.proofs.Common.{◌≡◌, ◌∙◌, ◌∷◌, [], Option, Some, ap, codes, pos}
use Rattle.clap.specs.Walk.{Rule, rule_of}
use Rattle.clap.specs.declared.builder.arg.Arg.{Arg}
use Rattle.clap.specs.declared.builder.value_parser.ValueParser.{ValueParser}
use Rattle.clap.specs.declared.builder.value_parser.ValueParser.TheVariants.{Signed}
use Rattle.oberon_claims.specs.declared.claims.TheConstants.{MAX_WORKERS}
use Rattle.oberon_cli.proofs.command.workers.Goals as goal

pub returns-clause-rule : goal.returns-clause-rule
returns-clause-rule c =
    let range : c.range.result ≡ Signed (pos 1) (pos MAX_WORKERS) = rw (c.value_parser.ensures, c.new.ensures.start, c.new.ensures.end) at c.range.ensures in
    ap rule_of c.value_parser-2.ensures.others
    ∙ ap (λ (p : Option ValueParser). rule_of (record c.default_value.result { value_parser = p })) (c.value_parser-2.ensures.given.1 ∙ ap Some (c.value_parser-2.ensures.given.2 ∙ range))
    ∙ ap (λ (a : Arg). rule_of (record a { value_parser = Some (Signed (pos 1) (pos MAX_WORKERS)) })) c.default_value.ensures
    ∙ ap (λ (r : Rule). record r { defaults = codes "2" ∷ []; parser = Some (Signed (pos 1) (pos MAX_WORKERS)) }) c.number.ensures.rule
