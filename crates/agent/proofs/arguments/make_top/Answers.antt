use Rattle.std.proofs.Common.{◌≡◌, ◌∙◌, ap, codes, true}
use Rattle.clap.specs.Words.{App, app_of, new_app}
use Rattle.clap.specs.Simple.{app_of_fields}
use Rattle.agent.proofs.arguments.make_top.Goals as goal

abbrev with_version : App → App
with_version a = record { top = record a.top { has_version = true }; subs = a.subs }

abbrev with_no_name : App → App
with_no_name a = record { top = record a.top { no_binary_name = true }; subs = a.subs }

abbrev without_help : App → App
without_help a = record { top = record a.top { disable_help_subcommand = true }; subs = a.subs }

abbrev with_required : App → App
with_required a = record { top = record a.top { subcommand_required = true }; subs = a.subs }

pub returns : goal.returns
returns c =
    let about_is : app_of c.about.result ≡ new_app (codes "bpfagent") =
    ap app_of_fields c.about.ensures ∙ (ap app_of_fields c.in_ok-named.ensures.0 ∙ c.new.ensures.app) in
    let texts_are : app_of c.after_help.result ≡ new_app (codes "bpfagent") = ap app_of_fields c.after_help.ensures ∙ about_is in
    let version_is : app_of c.version.result ≡ with_version (new_app (codes "bpfagent")) = ap app_of_fields c.version.ensures ∙ ap with_version texts_are in
    let named_is : app_of c.no_binary_name.result ≡ with_no_name (with_version (new_app (codes "bpfagent"))) =
    ap app_of_fields c.no_binary_name.ensures ∙ ap with_no_name version_is in
    let helpless_is : app_of c.disable_help_subcommand.result ≡ without_help (with_no_name (with_version (new_app (codes "bpfagent")))) =
    ap app_of_fields c.disable_help_subcommand.ensures ∙ ap without_help named_is in
    ap app_of_fields c.subcommand_required.ensures ∙ ap with_required helpless_is
