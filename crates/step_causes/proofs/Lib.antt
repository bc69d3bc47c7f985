mod CauseLaws
